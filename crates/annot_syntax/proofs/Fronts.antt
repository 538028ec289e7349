-- From what the grammar reads at the front of tokens to what stands there.
use Rattle.std.proofs.Common.{◌≡◌, inl, ℕ, zero, suc, ◌+◌, ◌-◌, ◌<◌, ◌≤◌, max, true, false, List, [], ◌∷◌, ◌++◌, length, drop, map, Err, refl, ap, sym, ◌∙◌, subst, arith, append_assoc}
use Rattle.std.proofs.lemmas.List.{length-append, length-map}
use Rattle.c_syntax.specs.declared.token.Span.{Span}
use Rattle.ebnf.specs.Derives.{next, IsPhrase}
use Rattle.ebnf.specs.Sets.{has}
use Rattle.ebnf.specs.Reading.{Fault, Unexpected, TooDeep, Out, reads}
use Rattle.ebnf.specs.Complete.{ok}
use Rattle.ebnf.specs.Moves.{HasNoEnd}
use Rattle.ebnf.specs.Starts.{starts_of}
use Rattle.ebnf.specs.Refutes.{phrase_read, phrase_opens, phrase_low, phrase_moves, reads_refute, read_phrase, same_value, same_rest}
use Rattle.ebnf.specs.Stuck.{reads_stuck}
use Rattle.ebnf.specs.Tools.{true_not_false}
use Rattle.ebnf.specs.Verdict.{HasEnd}
use Rattle.c_syntax.specs.declared.token.Token.{Token}
use Rattle.c_syntax.specs.Lexing.{Lexeme, lexeme}
use Rattle.c_syntax.specs.Expressions.{Exp}
use Rattle.c_syntax.specs.Language.{language, goes, begins}
use Rattle.c_syntax.specs.Readable.{readable}
use Rattle.c_syntax.specs.Faults.{first_token}
use Rattle.c_source.specs.declared.fault.SourceFault.{SourceFault}
use Rattle.c_source.specs.declared.fault.SourceFault.TheVariants as f
use Rattle.reader_expressions.specs.Reading.{lexemes}
use Rattle.annot_syntax.specs.Standing.{Begins, BeginsLow}
use Rattle.annot_syntax.proofs.Standing.{IsOne, Told, told, begins as goes_on}
use Rattle.annot_syntax.specs.Pieces.{code_expression, IsExpression, IsExpressionFault, IsFaultOrMemory, IsFoundOrMemory}

-- ---- the end of what is left

drop_body : (body : List Lexeme) (end : Lexeme) (at' : ℕ) → at' ≤ length body → drop at' (body ++ end ∷ []) ≡ drop at' body ++ end ∷ []
drop_body body end zero le = refl
drop_body [] end (suc n) le = absurd (omega (arith, le))
drop_body (x ∷ body) end (suc n) le = drop_body body end n (omega (arith, le))

drop_real : (body : List Lexeme) (at' : ℕ) → HasNoEnd language body → HasNoEnd language (drop at' body)
drop_real body zero real = real
drop_real [] (suc n) real = tt
drop_real (x ∷ body) (suc n) real = drop_real body n real.1

-- from each place on there is an end
pub end_behind : (ts : List Lexeme) (at' : ℕ) → HasEnd language ts → at' < length ts → HasEnd language (drop at' ts)
end_behind ts at' e lt =
    let total : length ts ≡ length e.body + 1 = ap length e.split ∙ length-append e.body (e.end ∷ []) in
    record { body = drop at' e.body; end = e.end; split = ap (drop at') e.split ∙ drop_body e.body e.end at' (omega (arith, total, lt)); real = drop_real e.body at' e.real; ends = e.ends }

-- the rest of what is left is a rest of all
drop_front : (front rest : List Lexeme) → drop (length front) (front ++ rest) ≡ rest
drop_front [] rest = refl
drop_front (x ∷ front) rest = drop_front front rest

take_all : (n : ℕ) (ts : List Lexeme) → n ≤ length ts → (front : List Lexeme) × (length front ≡ n) × (ts ≡ front ++ drop n ts)
take_all zero ts le = ([], refl, refl)
take_all (suc n) [] le = absurd (omega (arith, le))
take_all (suc n) (x ∷ ts) le = let r = take_all n ts (omega (arith, le)) in (x ∷ r.0, ap suc r.1, ap (λ us. x ∷ us) r.2)

pub place_behind : (ts front rest : List Lexeme) (at' : ℕ) → at' < length ts → drop at' ts ≡ front ++ rest → drop (length ts - length rest) ts ≡ rest
place_behind ts front rest at' lt split =
    let r = take_all at' ts (omega (arith, lt)) in
    let whole_is : ts ≡ (r.0 ++ front) ++ rest = r.2 ∙ ap (λ us. r.0 ++ us) split ∙ sym (append_assoc r.0 front rest) in
    let total : length ts ≡ length (r.0 ++ front) + length rest = ap length whole_is ∙ length-append (r.0 ++ front) rest in
    let count : length ts - length rest ≡ length (r.0 ++ front) = omega (arith, total) in
    ap (λ n. drop n ts) count ∙ ap (drop (length (r.0 ++ front))) whole_is ∙ drop_front (r.0 ++ front) rest

-- ---- what is read

ended : has (goes code_expression) 0 ≡ false
ended = refl

-- no tokens are two expressions
one_phrase : IsOne (IsPhrase language code_expression)
one_phrase ts a b h k rest late d e = sym (phrase_read language readable.good (max h k) code_expression ts a h rest d (omega arith)) ∙ phrase_read language readable.good (max h k) code_expression ts b k late e (omega arith)

expression_told : (room : ℕ) (ts : List Lexeme) → 1 ≤ room → HasEnd language ts → Told (IsPhrase language code_expression) room ts (reads language room code_expression ts)
expression_told room ts some end =
    told (IsPhrase language code_expression) (goes code_expression) ended one_phrase (phrase_moves language readable.good code_expression) room ts end (reads language room code_expression ts)
    (read_phrase language readable.good room code_expression ts (omega (arith, some))) (reads_stuck language readable room code_expression ts (omega (arith, some))) (reads_refute language readable.good room code_expression ts (omega (arith, some)))

-- an expression that is read stands there, and no longer one begins so
pub expression_read : (room : ℕ) (ts : List Lexeme) (e : Exp) (h : ℕ) (rest : List Lexeme) → 1 ≤ room → HasEnd language ts → reads language room code_expression ts ≡ ok language e h rest → IsExpression room ts e rest
expression_read room ts e h rest some end is = (subst (λ (o : Out language Exp). Told (IsPhrase language code_expression) room ts o) is (expression_told room ts some end)).0

-- a fault that is met is the first, and no expression stands there
pub fault_read : (room : ℕ) (ts : List Lexeme) (kind : Fault) (rest : List Lexeme) → 1 ≤ room → HasEnd language ts → reads language room code_expression ts ≡ Err (kind, rest) → IsExpressionFault room ts kind (first_token rest).place
fault_read room ts kind rest some end is =
    let t = subst (λ (o : Out language Exp). Told (IsPhrase language code_expression) room ts o) is (expression_told room ts some end) in
    record { front = t.0; token = t.1; stop = t.5; here = ap (λ us. (first_token us).place) t.4 }

-- an expression that is low enough is read
pub read_of : (room : ℕ) (ts : List Lexeme) (e : Exp) (h : ℕ) (rest : List Lexeme) → IsPhrase language code_expression ts e h rest → h ≤ room → reads language room code_expression ts ≡ ok language e h rest
read_of room ts e h rest d low = phrase_read language readable.good room code_expression ts e h rest d low

-- ---- no room

phrase_some : (ts : List Lexeme) (e : Exp) (h : ℕ) (rest : List Lexeme) → IsPhrase language code_expression ts e h rest → h ≤ 0 → ⊥
phrase_some ts e h rest d low = let least : 1 ≤ h = phrase_low language readable.good code_expression ts e h rest d in omega (arith, least, low)

none_low : (front : List Lexeme) → BeginsLow (IsPhrase language code_expression) 0 front → ⊥
none_low front b = phrase_some (front ++ b.late) b.tree b.high (b.is.end ∷ []) b.is.is b.low

-- the first token of what has an end
first_of : (ts : List Lexeme) → HasEnd language ts → (t' : Lexeme) × (after : List Lexeme) × (ts ≡ t' ∷ after)
first_of [] e = absurd (not_nil e.body e.end e.split)
  where
    not_nil : (body : List Lexeme) (end : Lexeme) → [] ≡ body ++ end ∷ [] → ⊥
    not_nil [] end e = cc
    not_nil (x ∷ body) end e = cc
first_of (x ∷ ts) e = (x, ts, refl)

-- with a token that begins an expression some expression begins
begins_with : (t' : Lexeme) (end : Lexeme) → language.class end ≡ 0 → has (begins code_expression) (language.class t') ≡ true → Begins (IsPhrase language code_expression) (t' ∷ [])
begins_with t' end z b =
    let v = starts_of language readable.good readable.lasts readable.leads code_expression t' b in
    goes_on (IsPhrase language code_expression) (goes code_expression) ended v.0 (t' ∷ []) end z v.1

begins_not : (t' : Lexeme) (late : List Lexeme) (e : Exp) (h : ℕ) (rest : List Lexeme) → has (begins code_expression) (language.class t') ≡ false → IsPhrase language code_expression (t' ∷ late) e h rest → ⊥
begins_not t' late e h rest no' d = true_not_false _ (phrase_opens language readable.good code_expression (t' ∷ late) e h rest d).0 no'

-- where there is no room, the first token is too deep or begins no expression
pub no_room_deep : (ts : List Lexeme) → HasEnd language ts → has (begins code_expression) (next language ts) ≡ true → IsExpressionFault 0 ts TooDeep (first_token ts).place
no_room_deep ts end b =
    let r = first_of ts end in
    record {
      front = [];
      token = r.0;
      stop = record {
        after = r.1;
        split = r.2;
        before = inl refl;
        here = none_low (r.0 ∷ []);
        unexpected = λ k. absurd (let clash : TooDeep ≡ Unexpected = k in cc clash);
        too_deep = λ k. begins_with r.0 end.end end.ends (ap (has (begins code_expression)) (sym (ap (next language) r.2)) ∙ b);
        none = λ e h rest d low. phrase_some ts e h rest d (low refl);
      };
      here = ap (λ us. (first_token us).place) r.2;
    }

pub no_room_unexpected : (ts : List Lexeme) → HasEnd language ts → has (begins code_expression) (next language ts) ≡ false → IsExpressionFault 0 ts Unexpected (first_token ts).place
no_room_unexpected ts end b =
    let r = first_of ts end in
    let not_first : has (begins code_expression) (language.class r.0) ≡ false = ap (has (begins code_expression)) (sym (ap (next language) r.2)) ∙ b in
    record {
      front = [];
      token = r.0;
      stop = record {
        after = r.1;
        split = r.2;
        before = inl refl;
        here = none_low (r.0 ∷ []);
        unexpected = λ k x. begins_not r.0 x.late x.tree x.high (x.is.end ∷ []) not_first x.is.is;
        too_deep = λ k. absurd (let clash : Unexpected ≡ TooDeep = k in cc clash);
        none = λ e h rest d low. begins_not r.0 r.1 e h rest not_first (subst (λ (us : List Lexeme). IsPhrase language code_expression us e h rest) r.2 d);
      };
      here = ap (λ us. (first_token us).place) r.2;
    }

-- ---- beside a fault no expression stands that is low enough

pub none_beside : (room : ℕ) (all ts : List Lexeme) (fault : SourceFault) → IsFaultOrMemory room ts fault → (e : Exp) (h : ℕ) (rest : List Lexeme) → IsPhrase language code_expression ts e h rest → h ≤ room → IsFoundOrMemory all e rest (Err fault)
none_beside room all ts (f.Unexpected p) x e h rest d low = x.stop.none e h rest d (λ k. low)
none_beside room all ts (f.TooDeep p) x e h rest d low = x.stop.none e h rest d (λ k. low)
none_beside room all ts f.OutOfMemory x e h rest d low = tt
none_beside room all ts (f.BadByte p) x e h rest d low = absurd x
none_beside room all ts (f.BadNumber p) x e h rest d low = absurd x
none_beside room all ts (f.OpenComment p) x e h rest d low = absurd x
none_beside room all ts (f.TooManyTokens p) x e h rest d low = absurd x
none_beside room all ts (f.UnknownForm p) x e h rest d low = absurd x

-- what is read is the one expression there
pub one_expression : (room : ℕ) (ts : List Lexeme) (e g : Exp) (h k : ℕ) (rest late : List Lexeme) → reads language room code_expression ts ≡ ok language g k late → IsPhrase language code_expression ts e h rest → h ≤ room → (e ≡ g) × (rest ≡ late)
one_expression room ts e g h k rest late is d low =
    let both : ok language e h rest ≡ ok language g k late = sym (read_of room ts e h rest d low) ∙ is in
    (same_value language readable.good e g h k rest late both, same_rest language readable.good e g h k rest late both)

-- ---- lists of tokens

drop_map : {X Y : Type 0} (g : X → Y) (n : ℕ) (xs : List X) → map g (drop n xs) ≡ drop n (map g xs)
drop_map g zero xs = refl
drop_map g (suc n) [] = refl
drop_map g (suc n) (x ∷ xs) = drop_map g n xs

pub from_on : (tokens here : List Token) (at' : ℕ) → here ≡ drop at' tokens → lexemes here ≡ drop at' (lexemes tokens)
from_on tokens here at' e = ap lexemes e ∙ drop_map lexeme at' tokens

-- the place behind what stands in front of the rest
pub following : (tokens rest : List Token) (at' n room : ℕ) (e : Exp) → at' < length tokens → n ≡ length tokens - length rest → IsExpression room (drop at' (lexemes tokens)) e (lexemes rest) → drop n (lexemes tokens) ≡ lexemes rest
following tokens rest at' n room e lt count x =
    let m = phrase_moves language readable.good code_expression (drop at' (lexemes tokens)) e x.high (lexemes rest) x.is in
    let few : at' < length (lexemes tokens) = rw (length-map tokens lexeme) lt in
    ap (λ k. drop k (lexemes tokens)) (count ∙ sym (rw (length-map tokens lexeme, length-map rest lexeme) refl)) ∙ place_behind (lexemes tokens) m.text (lexemes rest) at' few m.split

pub have_end : (tokens : List Token) (at' : ℕ) → HasEnd language (lexemes tokens) → at' < length tokens → HasEnd language (drop at' (lexemes tokens))
have_end tokens at' e lt = end_behind (lexemes tokens) at' e (rw (length-map tokens lexeme) lt)

-- ---- from a place on

-- what is read of the tokens from this place on, as tokens of all
read_at : (room : ℕ) (tokens here : List Token) (at' : ℕ) (out : Out language Exp) → here ≡ drop at' tokens → reads language room code_expression (lexemes here) ≡ out → reads language room code_expression (drop at' (lexemes tokens)) ≡ out
read_at room tokens here at' out e is = ap (reads language room code_expression) (sym (from_on tokens here at' e)) ∙ is

pub fault_at : (room : ℕ) (tokens here : List Token) (at' : ℕ) (kind : Fault) (rest : List Lexeme) (place : Span) → here ≡ drop at' tokens → at' < length tokens → 1 ≤ room → HasEnd language (lexemes tokens) → reads language room code_expression (lexemes here) ≡ Err (kind, rest) → place ≡ (first_token rest).place → IsExpressionFault room (drop at' (lexemes tokens)) kind place
fault_at room tokens here at' kind rest place e lt some end is stands =
    subst (λ (p : Span). IsExpressionFault room (drop at' (lexemes tokens)) kind p) (sym stands) (fault_read room (drop at' (lexemes tokens)) kind rest some (have_end tokens at' end lt) (read_at room tokens here at' (Err (kind, rest)) e is))

stands_at : (room : ℕ) (tokens here rest : List Token) (at' h : ℕ) (e : Exp) → here ≡ drop at' tokens → at' < length tokens → 1 ≤ room → HasEnd language (lexemes tokens) → reads language room code_expression (lexemes here) ≡ ok language e h (lexemes rest) → IsExpression room (drop at' (lexemes tokens)) e (lexemes rest)
stands_at room tokens here rest at' h e same lt some end is = expression_read room (drop at' (lexemes tokens)) e h (lexemes rest) some (have_end tokens at' end lt) (read_at room tokens here at' (ok language e h (lexemes rest)) same is)

pub found_at : (room : ℕ) (tokens here rest : List Token) (at' h n : ℕ) (e : Exp) → here ≡ drop at' tokens → at' < length tokens → 1 ≤ room → HasEnd language (lexemes tokens) → n ≡ length tokens - length rest → reads language room code_expression (lexemes here) ≡ ok language e h (lexemes rest) → IsExpression room (drop at' (lexemes tokens)) e (drop n (lexemes tokens))
found_at room tokens here rest at' h n e same lt some end count is =
    let x = stands_at room tokens here rest at' h e same lt some end is in
    subst (λ (us : List Lexeme). IsExpression room (drop at' (lexemes tokens)) e us) (sym (following tokens rest at' n room e lt count x)) x

pub only_at : (room : ℕ) (tokens here rest : List Token) (at' h n : ℕ) (e : Exp) → here ≡ drop at' tokens → at' < length tokens → 1 ≤ room → HasEnd language (lexemes tokens) → n ≡ length tokens - length rest → reads language room code_expression (lexemes here) ≡ ok language e h (lexemes rest) → (g : Exp) (k : ℕ) (late : List Lexeme) → IsPhrase language code_expression (drop at' (lexemes tokens)) g k late → k ≤ room → (g ≡ e) × (late ≡ drop n (lexemes tokens))
only_at room tokens here rest at' h n e same lt some end count is g k late d low =
    let x = stands_at room tokens here rest at' h e same lt some end is in
    let one = one_expression room (drop at' (lexemes tokens)) g e k h late (lexemes rest) (read_at room tokens here at' (ok language e h (lexemes rest)) same is) d low in
    (one.0, one.1 ∙ sym (following tokens rest at' n room e lt count x))
