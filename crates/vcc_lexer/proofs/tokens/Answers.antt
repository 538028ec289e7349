use Rattle.std.proofs.Common.{◌≡◌, ℕ, ◌≤◌, List, [], ◌∷◌, ◌++◌, length, map, drop, take, sym, ap, ◌∙◌, subst, cond, true, false, is_ok, Bool, Some, None, Option, arith, add-zero}
use Rattle.std.specs.Prelude.{◌==◌}
use Rattle.std.proofs.lemmas.Bool.Decides.{nat_tests}
use Rattle.std.proofs.lemmas.List.{map-append, length-map, length-append, nil_from_length}
use Rattle.c_syntax.specs.declared.token.Token.{Token}
use Rattle.c_syntax.specs.declared.fault.LexFault.{LexFault}
use Rattle.c_syntax.specs.Tokens as t
use Rattle.c_syntax.specs.Tokens.{Word}
use Rattle.c_syntax.specs.Lexing as l
use Rattle.c_syntax.specs.Lexing.{Position, Lexeme, Skips, IsFirst, Reaches, Lexes, IsFirstFault, IsFirstOrMemory, IsFault, first_position, lexeme, lexeme_at, most_tokens}
use Rattle.vcc_lexer.specs.Places.{position}
use Rattle.vcc_lexer.specs.Steps.{IsStepOf}
use Rattle.vcc_lexer.proofs.Places.{room_on}
use Rattle.vcc_lexer.proofs.Reading.{skipped_on, token_on, moved_to, only_fault, first_fault, same_tokens, no_fault, fault_found}
use Rattle.vcc_lexer.proofs.Slices.{token_texts}
use Rattle.vcc_lexer.proofs.tokens.Goals as goal

pushed : (ok : Bool) (old new : List Token) (x : Token) → ok ≡ true → new ≡ cond ok (old ++ x ∷ []) old → new ≡ old ++ x ∷ []
pushed true old new x e is = is
pushed false old new x e is = absurd cc

skipped : (count : ℕ) (p : Position) (rest : List ℕ) (token : Option Token) (n : ℕ) → IsStepOf count p rest token n → token ≡ None → Skips p rest n
skipped count p rest None n h e = h
skipped count p rest (Some x) n h e = absurd cc

taken : (count : ℕ) (p : Position) (rest : List ℕ) (token : Option Token) (x : Token) (n : ℕ) → IsStepOf count p rest token n → token ≡ Some x → IsStepOf count p rest (Some x) n
taken count p rest token x n h e = subst (λ (y : Option Token). IsStepOf count p rest y n) e h

-- the tokens that are found, with one more
more_tokens : (old new : List Token) (x : Token) (y : Lexeme) → new ≡ old ++ x ∷ [] → lexeme x ≡ y → map lexeme new ≡ map lexeme old ++ y ∷ []
more_tokens old new x y e f = ap (map lexeme) e ∙ map-append lexeme old (x ∷ []) ∙ ap (λ z. map lexeme old ++ z ∷ []) f

lexed : (bytes rest : List ℕ) (p : Position) (old new : List Token) (x : Token) → Reaches first_position bytes (map lexeme old) p rest → rest ≡ [] → new ≡ old ++ x ∷ [] → lexeme x ≡ lexeme_at p t.End 0 → Lexes bytes (map lexeme new)
lexed bytes rest p old new x r e is f = record { end = p; before = map lexeme old; reaches = subst (λ (w : List ℕ). Reaches first_position bytes (map lexeme old) p w) e r; last = more_tokens old new x (lexeme_at p t.End 0) is f }

end_lexeme : (p : Position) → lexeme_at p t.End 0 ≡ record { word = t.End; place = p.place; start = p.offset; end = p.offset }
end_lexeme p = ap (λ n. record { word = t.End; place = p.place; start = p.offset; end = n }) (add-zero p.offset)

first_found : (bytes : List ℕ) (found : List Token) (p : Position) (rest : List ℕ) (a : LexFault) (count : ℕ) → Reaches first_position bytes (map lexeme found) p rest → length found ≤ 262144 → count ≡ length found → IsFault count p.place rest a → IsFirstOrMemory bytes a
first_found bytes found p rest a count r few e h =
    let l : length (map lexeme found) ≡ length found = length-map found lexeme in
    fault_found bytes (map lexeme found) p rest a r (omega arith) (subst (λ k. IsFault k p.place rest a) (e ∙ sym l) h)

no_rest : (rest : List ℕ) → true ≡ (length rest == 0) → rest ≡ []
no_rest rest e = nil_from_length rest (none (length rest) e)
  where
    none : (n : ℕ) → true ≡ (n == 0) → n ≡ 0
    none n e = grind (arith, nat_tests)

few_found : (old new : List Token) (x : Token) → new ≡ old ++ x ∷ [] → length old ≤ 262144 → length (map lexeme new) ≤ 262145
few_found old new x e few = omega (arith, length-map new lexeme, ap length e, length-append old (x ∷ []))

pub loop-rest-init : goal.loop-rest-init
loop-rest-init c = record {
  reaches = subst (λ (w : List Token). Reaches first_position c.args.bytes.now (map lexeme w) first_position c.args.bytes.now) (sym c.new-found.ensures.items) l.here;
  few = omega (arith, ap length c.new-found.ensures.items);
  room = record { offset = omega (arith, c.requires); line = omega (arith, c.requires); column = omega (arith, c.requires); counted = omega arith };
}

pub returns-in-Err-clause-only : goal.returns-in-Err-clause-only
returns-in-Err-clause-only c = λ ts y few. only_fault {X = List Lexeme} (λ (w : List Lexeme). w) c.args.bytes.now c.in-Err.fault ts (first_found c.args.bytes.now c.loop-rest.found.items (position c.loop-rest.place) c.loop-rest.rest.now c.in-Err.fault c.len.result c.loop-rest.invariant.reaches c.loop-rest.invariant.few (omega (arith, c.len.ensures)) c.in-Err.ensures.fault) y few

pub returns-in-Err-clause-first : goal.returns-in-Err-clause-first
returns-in-Err-clause-first c = λ b y. first_fault (List Lexeme) c.args.bytes.now c.in-Err.fault b (first_found c.args.bytes.now c.loop-rest.found.items (position c.loop-rest.place) c.loop-rest.rest.now c.in-Err.fault c.len.result c.loop-rest.invariant.reaches c.loop-rest.invariant.few (omega (arith, c.len.ensures)) c.in-Err.ensures.fault) y

pub loop-rest-preserved-in_default : goal.loop-rest-preserved-in_default
loop-rest-preserved-in_default c =
    let p = position c.loop-rest.place in
    let skips = skipped _ p c.loop-rest.rest.now c.in-Ok.step.token c.in-Ok.step.length c.in-Ok.ensures.step c.in_default.is in
    record {
      reaches = moved_to c.args.bytes.now c.loop-rest.rest.now c.split_at.result.0.now c.split_at.result.1.now p (position c.place_after-place.result) (map lexeme c.loop-rest.found.items) c.in-Ok.step.length c.split_at.ensures.front c.split_at.ensures.back c.place_after-place.ensures (skipped_on c.args.bytes.now c.loop-rest.rest.now p (map lexeme c.loop-rest.found.items) c.in-Ok.step.length c.loop-rest.invariant.reaches skips);
      few = c.loop-rest.invariant.few;
      room = room_on p (position c.place_after-place.result) c.split_at.result.0.now (length c.loop-rest.rest.now) (length c.split_at.result.1.now) c.loop-rest.invariant.room c.place_after-place.ensures (omega (arith, c.split_at.ensures.front_len, c.split_at.ensures.back_len));
    }

pub loop-rest-preserved : goal.loop-rest-preserved
loop-rest-preserved c =
    let p = position c.loop-rest.place in
    let found = taken _ p c.loop-rest.rest.now c.in-Ok.step.token c.in-Some.token c.in-Ok.step.length c.in-Ok.ensures.step c.in-Some.is in
    let now = pushed (is_ok c.push.result) c.loop-rest.found.items c.push.new.self.items c.in-Some.token c.if-is_err.ensures.negation c.push.ensures.items in
    let on = token_on c.args.bytes.now c.loop-rest.rest.now p (map lexeme c.loop-rest.found.items) found.1 c.in-Ok.step.length c.loop-rest.invariant.reaches found.2 in
    record {
      reaches = moved_to c.args.bytes.now c.loop-rest.rest.now c.split_at.result.0.now c.split_at.result.1.now p (position c.place_after-place.result) (map lexeme c.push.new.self.items) c.in-Ok.step.length c.split_at.ensures.front c.split_at.ensures.back c.place_after-place.ensures (subst (λ (w : List Lexeme). Reaches first_position c.args.bytes.now w (l.place_after (take c.in-Ok.step.length c.loop-rest.rest.now) p) (drop c.in-Ok.step.length c.loop-rest.rest.now)) (sym (more_tokens c.loop-rest.found.items c.push.new.self.items c.in-Some.token (lexeme_at p found.1 c.in-Ok.step.length) now found.3)) on);
      few = omega (arith, ap length now, length-append c.loop-rest.found.items (c.in-Some.token ∷ []), found.0, c.len.ensures);
      room = room_on p (position c.place_after-place.result) c.split_at.result.0.now (length c.loop-rest.rest.now) (length c.split_at.result.1.now) c.loop-rest.invariant.room c.place_after-place.ensures (omega (arith, c.split_at.ensures.front_len, c.split_at.ensures.back_len));
    }

pub returns-clause-texts : goal.returns-clause-texts
returns-clause-texts c =
    let new = pushed (is_ok c.push-2.result) c.loop-rest.found.items c.push-2.new.self.items _ c.if-is_err-2.ensures.negation c.push-2.ensures.items in
    token_texts c.args.bytes.now (map lexeme c.push-2.new.self.items) (lexed c.args.bytes.now c.loop-rest.rest.now (position c.loop-rest.place) c.loop-rest.found.items c.push-2.new.self.items _ c.loop-rest.invariant.reaches (no_rest c.loop-rest.rest.now c.loop-rest-test.ensures) new (sym (end_lexeme (position c.loop-rest.place))))

pub returns-clause-only : goal.returns-clause-only
returns-clause-only c =
    let new = pushed (is_ok c.push-2.result) c.loop-rest.found.items c.push-2.new.self.items _ c.if-is_err-2.ensures.negation c.push-2.ensures.items in
    λ ts y few. same_tokens c.args.bytes.now ts (map lexeme c.push-2.new.self.items) y (lexed c.args.bytes.now c.loop-rest.rest.now (position c.loop-rest.place) c.loop-rest.found.items c.push-2.new.self.items _ c.loop-rest.invariant.reaches (no_rest c.loop-rest.rest.now c.loop-rest-test.ensures) new (sym (end_lexeme (position c.loop-rest.place))))

pub returns-clause-first : goal.returns-clause-first
returns-clause-first c =
    let new = pushed (is_ok c.push-2.result) c.loop-rest.found.items c.push-2.new.self.items _ c.if-is_err-2.ensures.negation c.push-2.ensures.items in
    λ b y. no_fault c.args.bytes.now b (map lexeme c.push-2.new.self.items) y (lexed c.args.bytes.now c.loop-rest.rest.now (position c.loop-rest.place) c.loop-rest.found.items c.push-2.new.self.items _ c.loop-rest.invariant.reaches (no_rest c.loop-rest.rest.now c.loop-rest-test.ensures) new (sym (end_lexeme (position c.loop-rest.place))))
    (few_found c.loop-rest.found.items c.push-2.new.self.items _ new c.loop-rest.invariant.few)
