-- That what is read of an annotation is what stands there.
use Rattle.std.proofs.Common.{◌≡◌, inl, ℕ, suc, ◌-◌, ◌<◌, ◌≤◌, Bool, true, false, List, [], ◌∷◌, ◌++◌, refl, ap, ◌∙◌, subst, arith}
use Rattle.std.specs.Prelude.{◌&&◌}
use Rattle.ebnf.specs.Rules.{token, below, nothing, row, by_value, by_next, many, until, form, pick, chain, climb}
use Rattle.ebnf.specs.Derives.{Derives, DerivesRule, IsPhrase}
use Rattle.ebnf.specs.Sets.{PartOf, RuleOf, has, low, low_rule, first, first_rule, more, more_rule, is_empty, is_flat, is_predictive, is_predictive_rule, leads, leads_rule}
use Rattle.ebnf.specs.Reading.{Unexpected, TooDeep, read, read_rule, reads}
use Rattle.ebnf.specs.Complete.{ok}
use Rattle.ebnf.specs.Sound.{sound, sound_rule}
use Rattle.ebnf.specs.Opens.{low_is, rule_low}
use Rattle.ebnf.specs.Moves.{Moves, part_moves, rule_moves}
use Rattle.ebnf.specs.Refutes.{refutes, refutes_rule, reads_refute, read_phrase, phrase_low, phrase_opens, phrase_moves, one, one_rule}
use Rattle.ebnf.specs.Fronts.{Viable, Lasts, LastsRule}
use Rattle.ebnf.specs.Starts.{starts, starts_rule, starts_of, low_high}
use Rattle.ebnf.specs.Stuck.{stuck, stuck_rule, reads_stuck}
use Rattle.ebnf.specs.Tools.{and_left, and_right}
use Rattle.ebnf.specs.Verdict.{HasEnd}
use Rattle.c_syntax.specs.declared.token.Sign.TheVariants as s
use Rattle.c_syntax.specs.Classes.{sign}
use Rattle.c_syntax.specs.Lexing.{Lexeme}
use Rattle.c_syntax.specs.Grammar.{N, P, R}
use Rattle.c_syntax.specs.Language.{language}
use Rattle.c_syntax.specs.Readable.{readable}
use Rattle.reader_pieces.specs.declared.tree.Place.{Place}
use Rattle.reader_pieces.specs.declared.tree.Place.TheVariants as places
use Rattle.reader_pieces.specs.Annotations.{Annot, Shape, flat, level, annotation}
use Rattle.reader_pieces.specs.Shapes.{least_of, shape_at}
use Rattle.annot_syntax.specs.Standing.{IsStop}
use Rattle.annot_syntax.specs.Annotations.{phrases}
use Rattle.annot_syntax.proofs.Standing.{IsOne, Told, told, begins}

-- ---- loops of annotations end by themselves

-- no loop up to a value
unfoldable plain : {A : Type 0} → PartOf language A → Bool
plain (token c k f) = true
plain (below n f) = true
plain (nothing v) = true
plain (row p q) = plain p && plain q
plain (by_value p t q r) = plain p && (plain q && plain r)
plain (by_next p q) = plain p && plain q
plain (many p f) = plain p
plain (until p f) = false

plain_lasts : {A : Type 0} (p : PartOf language A) → plain p ≡ true → Lasts language p
unfolding plain Lasts
plain_lasts (token c k f) h = tt
plain_lasts (below n f) h = tt
plain_lasts (nothing v) h = tt
plain_lasts (row p q) h = (plain_lasts p (and_left (plain p) _ h), plain_lasts q (and_right (plain p) _ h))
plain_lasts (by_value p t q r) h =
    let k = and_right (plain p) _ h in
    (plain_lasts p (and_left (plain p) _ h), plain_lasts q (and_left (plain q) _ k), plain_lasts r (and_right (plain q) _ k))
plain_lasts (by_next p q) h = (plain_lasts p (and_left (plain p) _ h), plain_lasts q (and_right (plain p) _ h))
plain_lasts (many p f) h = plain_lasts p h
plain_lasts (until p f) h = absurd cc

-- a rule that is a form
unfoldable plain_rule : {A : Type 0} → RuleOf language A → Bool
plain_rule (form p) = plain p
plain_rule _ = false

plain_lasts_rule : {A : Type 0} (r : RuleOf language A) → plain_rule r ≡ true → LastsRule language r
unfolding plain_rule LastsRule
plain_lasts_rule (form p) h = plain_lasts p h
plain_lasts_rule (pick p q) h = absurd cc
plain_lasts_rule (chain s t l f) h = absurd cc
plain_lasts_rule (climb s c m l) h = absurd cc

-- ---- what is seen of a shape alone

abbrev any_n : N → Bool
any_n n = true

abbrev fine : Shape → Bool
fine (flat p) = is_predictive language p
fine (level r) = is_predictive_rule language r

abbrev lasting : Shape → Bool
lasting (flat p) = plain p
lasting (level r) = plain_rule r

abbrev going : Shape → List ℕ
going (flat p) = more language p
going (level r) = more_rule language r

abbrev leading : Shape → Bool
leading (flat p) = leads language any_n p
leading (level r) = leads_rule language any_n r

abbrev beginning : Shape → List ℕ
beginning (flat p) = first language p
beginning (level r) = first_rule language r

place_fine : (place : Place) → fine (annotation place) ≡ true
unfolding is_predictive_rule is_predictive more more_rule first first_rule is_empty low is_flat
place_fine places.Struct = refl
place_fine places.Member = refl
place_fine places.Parameter = refl
place_fine places.Contract = refl
place_fine places.Statement = refl
place_fine places.Loop = refl
place_fine places.Argument = refl
place_fine places.Ghost = refl

place_lasting : (place : Place) → lasting (annotation place) ≡ true
unfolding plain plain_rule
place_lasting places.Struct = refl
place_lasting places.Member = refl
place_lasting places.Parameter = refl
place_lasting places.Contract = refl
place_lasting places.Statement = refl
place_lasting places.Loop = refl
place_lasting places.Argument = refl
place_lasting places.Ghost = refl

place_ends : (place : Place) → has (going (annotation place)) 0 ≡ false
unfolding more more_rule first is_empty
place_ends places.Struct = refl
place_ends places.Member = refl
place_ends places.Parameter = refl
place_ends places.Contract = refl
place_ends places.Statement = refl
place_ends places.Loop = refl
place_ends places.Argument = refl
place_ends places.Ghost = refl

place_leads : (place : Place) → leading (annotation place) ≡ true
unfolding leads leads_rule is_empty
place_leads places.Struct = refl
place_leads places.Member = refl
place_leads places.Parameter = refl
place_leads places.Contract = refl
place_leads places.Statement = refl
place_leads places.Loop = refl
place_leads places.Argument = refl
place_leads places.Ghost = refl

place_begins : (place : Place) → has (beginning (annotation place)) (sign s.Annotation) ≡ true
unfolding first first_rule is_empty
place_begins places.Struct = refl
place_begins places.Member = refl
place_begins places.Parameter = refl
place_begins places.Contract = refl
place_begins places.Statement = refl
place_begins places.Loop = refl
place_begins places.Argument = refl
place_begins places.Ghost = refl

-- ---- what is read

shape_one : (x : Shape) → fine x ≡ true → IsOne (phrases x)
shape_one (flat p) ok = one language readable.good p ok
shape_one (level r) ok = one_rule language readable.good r ok

shape_moves : (x : Shape) → fine x ≡ true → (ts : List Lexeme) (a : Annot) (h : ℕ) (rest : List Lexeme) → phrases x ts a h rest → Moves language (phrases x) (going x) ts a h rest
shape_moves (flat p) ok ts a h rest d = part_moves language (IsPhrase language) (phrase_moves language readable.good) (phrase_opens language readable.good) p ok ts a h rest d
shape_moves (level r) ok ts a h rest d = rule_moves language (IsPhrase language) (phrase_moves language readable.good) (phrase_opens language readable.good) r ok ts a h rest d

shape_low : (x : Shape) (ts : List Lexeme) (a : Annot) (h : ℕ) (rest : List Lexeme) → phrases x ts a h rest → least_of x ≤ h
shape_low (flat p) ts a h rest d = low_is language (IsPhrase language) (phrase_low language readable.good) p ts a h rest d
shape_low (level r) ts a h rest d = rule_low language (IsPhrase language) (phrase_low language readable.good) r ts a h rest d

flat_told : (p : P Annot) → fine (flat p) ≡ true → lasting (flat p) ≡ true → has (going (flat p)) 0 ≡ false → (room : ℕ) → low language p ≤ room → (ts : List Lexeme) → HasEnd language ts → Told (phrases (flat p)) room ts (shape_at room (flat p) ts)
flat_told p ok last ended room le ts e =
    told (Derives language (IsPhrase language) p) (more language p) ended (shape_one (flat p) ok) (shape_moves (flat p) ok) room ts e (read language (reads language room) room p ts)
    (sound language (reads language room) (IsPhrase language) room (read_phrase language readable.good room) p ok le ts)
    (stuck language readable room (reads_stuck language readable room) p ok (plain_lasts p last) le ts)
    (refutes language readable.good room (reads_refute language readable.good room) p ok le ts)

level_told : (r : R Annot) → fine (level r) ≡ true → lasting (level r) ≡ true → has (going (level r)) 0 ≡ false → (room : ℕ) → low_rule language r ≤ suc room → (ts : List Lexeme) → HasEnd language ts → Told (phrases (level r)) (suc room) ts (read_rule language (reads language room) room r ts)
level_told r ok last ended room le ts e =
    told (DerivesRule language (IsPhrase language) r) (more_rule language r) ended (shape_one (level r) ok) (shape_moves (level r) ok) (suc room) ts e (read_rule language (reads language room) room r ts)
    (sound_rule language (reads language room) (IsPhrase language) room (read_phrase language readable.good room) r ok le ts)
    (stuck_rule language readable room (reads_stuck language readable room) r ok (plain_lasts_rule r last) le ts)
    (refutes_rule language readable.good room (reads_refute language readable.good room) r ok le ts)

shape_told : (x : Shape) → fine x ≡ true → lasting x ≡ true → has (going x) 0 ≡ false → (room : ℕ) → least_of x ≤ room → (ts : List Lexeme) → HasEnd language ts → Told (phrases x) room ts (shape_at room x ts)
shape_told (flat p) ok last ended room le ts e = flat_told p ok last ended room le ts e
shape_told (level r) ok last ended room le ts e =
    let some : 0 < low_rule language r = low_high language readable.good r in
    let whole : suc (room - 1) ≡ room = omega (arith, some, le) in
    subst (λ (n : ℕ). Told (phrases (level r)) n ts (shape_at room (level r) ts)) whole (level_told r ok last ended (room - 1) (omega (arith, some, le)) ts e)

-- what is read of an annotation's tokens is what stands there, or the first fault
pub place_told : (place : Place) (room : ℕ) → least_of (annotation place) ≤ room → (ts : List Lexeme) → HasEnd language ts → Told (phrases (annotation place)) room ts (shape_at room (annotation place) ts)
place_told place room le ts e = shape_told (annotation place) (place_fine place) (place_lasting place) (place_ends place) room le ts e

-- no tokens are two annotations
pub place_one : (place : Place) → IsOne (phrases (annotation place))
place_one place = shape_one (annotation place) (place_fine place)

-- an annotation that stands there goes on to the rest
pub place_moves : (place : Place) (ts : List Lexeme) (a : Annot) (h : ℕ) (rest : List Lexeme) → phrases (annotation place) ts a h rest → (text : List Lexeme) × (ts ≡ text ++ rest)
place_moves place ts a h rest d = let m = shape_moves (annotation place) (place_fine place) ts a h rest d in (m.text, m.split)

-- ---- where there is no room

shape_starts : (x : Shape) → fine x ≡ true → lasting x ≡ true → leading x ≡ true → (t : Lexeme) → has (beginning x) (language.class t) ≡ true → (room : ℕ) × Viable language (phrases x) (going x) room (t ∷ [])
shape_starts (flat p) ok last lead t b = starts language readable.good readable.lasts any_n (λ n u yes c. starts_of language readable.good readable.lasts readable.leads n u c) p ok (plain_lasts p last) lead t b
shape_starts (level r) ok last lead t b = starts_rule language readable.good readable.lasts any_n (λ n u yes c. starts_of language readable.good readable.lasts readable.leads n u c) r ok (plain_lasts_rule r last) lead t b

-- only annotations that are too high begin with `_(`
pub place_deep : (place : Place) (room : ℕ) → room < least_of (annotation place) → (t : Lexeme) (after : List Lexeme) → HasEnd language (t ∷ after) → language.class t ≡ sign s.Annotation → IsStop (phrases (annotation place)) room (t ∷ after) TooDeep [] t
place_deep place room lt t after end is = record {
  after = after;
  split = refl;
  before = inl refl;
  here = λ b. high (t ∷ b.late) b.tree b.high (b.is.end ∷ []) b.is.is b.low;
  unexpected = λ k. absurd (let clash : TooDeep ≡ Unexpected = k in cc clash);
  too_deep = λ k.
      let v = shape_starts (annotation place) (place_fine place) (place_lasting place) (place_leads place) t (ap (has (beginning (annotation place))) is ∙ place_begins place) in
      begins (phrases (annotation place)) (going (annotation place)) (place_ends place) v.0 (t ∷ []) end.end end.ends v.1;
  none = λ a h rest d low. high (t ∷ after) a h rest d (low refl);
}
  where
    high : (ts : List Lexeme) (a : Annot) (h : ℕ) (rest : List Lexeme) → phrases (annotation place) ts a h rest → h ≤ room → ⊥
    high ts a h rest d le = let most : least_of (annotation place) ≤ h = shape_low (annotation place) ts a h rest d in omega (arith, lt, most, le)
