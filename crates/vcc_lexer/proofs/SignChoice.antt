-- The longest sign that begins a text.
use Rattle.std.proofs.Common.{◌≡◌, ℕ, ◌<◌, Bool, true, false, eqb, List, ◌++◌, length, lit<, get_or, take, drop, sym, ap, ◌∙◌, subst, inl, inr, arith}
use Rattle.std.specs.Prelude.{All, Contains, codes, MatchOption, Option, Some, None}
use Rattle.std.specs.Cmp.Lexicographic.{pointwise}
use Rattle.std.proofs.lemmas.Bool.Decides.{Decides-eqb}
use Rattle.std.proofs.lemmas.Slice.Eq.{starts_is}
use Rattle.std.proofs.lemmas.List.Elements.{All-contains}
use Rattle.c_syntax.specs.declared.token.Sign.{Sign}
use Rattle.c_syntax.specs.declared.token.Sign.TheVariants as s
use Rattle.c_syntax.specs.Words.{sign_text}
use Rattle.vcc_lexer.specs.First.{Begins, NotBegins}
use Rattle.vcc_lexer.specs.declared.signs.TheConstants.{LONG_SIGNS, SIGNS_OF_TWO, SIGNS_OF_ONE}
use Rattle.vcc_lexer.proofs.SignTables as t
use Rattle.vcc_lexer.proofs.SignTables.{each_sign, OfLength, of_length, long_is, two_length, one_length}

pub begins_by : (text p : List ℕ) (x : Sign) (r : Bool) → r ≡ pointwise eqb p (take (length p) text) → p ≡ sign_text x → r ≡ true → Begins text x
begins_by text p x r v e h = (drop (length p) text, (starts_is Decides-eqb text p r v).0 h ∙ ap (λ (w : List ℕ). w ++ drop (length p) text) e)

pub not_begins_by : (text p : List ℕ) (x : Sign) (r : Bool) → r ≡ pointwise eqb p (take (length p) text) → p ≡ sign_text x → r ≡ false → NotBegins text x
not_begins_by text p x r v e h = λ rest q. let yes' : r ≡ true = (starts_is Decides-eqb text p r v).1 rest (q ∙ ap (λ (w : List ℕ). w ++ rest) (sym e)) in absurd cc

abbrev Longer : Sign → Sign → Type 0
Longer x y = length (sign_text x) < length (sign_text y)

-- nothing is longer than `<==>`
past_four : (y : Sign) → OfLength y → Longer s.Equivalent y → ⊥
past_four y (t.one e) lt = omega arith
past_four y (t.two c e) lt = omega arith
past_four y (t.three e) lt = let l : length (sign_text y) ≡ 3 = ap (λ x. length (sign_text x)) e in omega arith
past_four y (t.four e) lt = let l : length (sign_text y) ≡ 4 = ap (λ x. length (sign_text x)) e in omega arith

past_three : (y : Sign) → OfLength y → Longer s.Implies y → y ≡ s.Equivalent
past_three y (t.one e) lt = absurd (omega arith)
past_three y (t.two c e) lt = absurd (omega arith)
past_three y (t.three e) lt = let l : length (sign_text y) ≡ 3 = ap (λ x. length (sign_text x)) e in absurd (omega arith)
past_three y (t.four e) lt = e

apart : (text a b : List ℕ) → text ≡ codes "==>" ++ a → text ≡ codes "<==>" ++ b → ⊥
apart text a b p q =
    let e : get_or text 0 0 ≡ 61 = ap (λ (w : List ℕ). get_or w 0 0) p in
    let f : get_or text 0 0 ≡ 60 = ap (λ (w : List ℕ). get_or w 0 0) q in
    omega arith

pub long_longest : (text : List ℕ) (x : Sign) → Begins text x → Contains LONG_SIGNS x → (y : Sign) → Longer x y → NotBegins text y
long_longest text x begins among y lt = elim (long_is x among) [
  | inl e ↦ absurd (past_four y (of_length y) (subst (λ z. Longer z y) e lt))
  | inr e ↦ λ rest q.
      let f : y ≡ s.Equivalent = past_three y (of_length y) (subst (λ z. Longer z y) e lt) in
      apart text begins.0 rest (begins.1 ∙ ap (λ z. sign_text z ++ begins.0) e) (q ∙ ap (λ z. sign_text z ++ rest) f)
]

past_two : (text : List ℕ) → All (NotBegins text) LONG_SIGNS → (y : Sign) → OfLength y → 2 < length (sign_text y) → NotBegins text y
past_two text long y (t.one e) lt = absurd (omega arith)
past_two text long y (t.two c e) lt = absurd (omega arith)
past_two text long y (t.three e) lt = subst (λ z. NotBegins text z) (sym e) (long 1 s.Implies (lit< tt))
past_two text long y (t.four e) lt = subst (λ z. NotBegins text z) (sym e) (long 0 s.Implies (lit< tt))

past_one : (text : List ℕ) → All (NotBegins text) LONG_SIGNS → All (NotBegins text) SIGNS_OF_TWO → (y : Sign) → OfLength y → 1 < length (sign_text y) → NotBegins text y
past_one text long two y (t.one e) lt = absurd (omega arith)
past_one text long two y (t.two c e) lt = All-contains (NotBegins text) SIGNS_OF_TWO y two c
past_one text long two y (t.three e) lt = subst (λ z. NotBegins text z) (sym e) (long 1 s.Implies (lit< tt))
past_one text long two y (t.four e) lt = subst (λ z. NotBegins text z) (sym e) (long 0 s.Implies (lit< tt))

pub two_longest : (text : List ℕ) (x : Sign) → All (NotBegins text) LONG_SIGNS → Contains SIGNS_OF_TWO x → (y : Sign) → Longer x y → NotBegins text y
two_longest text x long among y lt =
    let l : length (sign_text x) ≡ 2 = All-contains (λ z. length (sign_text z) ≡ 2) SIGNS_OF_TWO x two_length among in
    past_two text long y (of_length y) (omega arith)

pub one_longest : (text : List ℕ) (x : Sign) → All (NotBegins text) LONG_SIGNS → All (NotBegins text) SIGNS_OF_TWO → Contains SIGNS_OF_ONE x → (y : Sign) → Longer x y → NotBegins text y
one_longest text x long two among y lt =
    let l : length (sign_text x) ≡ 1 = All-contains (λ z. length (sign_text z) ≡ 1) SIGNS_OF_ONE x one_length among in
    past_one text long two y (of_length y) (omega arith)

pub last_choice : (text : List ℕ) (r : Option Sign) → All (NotBegins text) LONG_SIGNS → All (NotBegins text) SIGNS_OF_TWO → MatchOption r (All (NotBegins text) SIGNS_OF_ONE) (λ x. Begins text x × Contains SIGNS_OF_ONE x) → MatchOption r ((x : Sign) → NotBegins text x) (λ x. Begins text x × ((y : Sign) → Longer x y → NotBegins text y))
last_choice text None long two h = each_sign (NotBegins text) long two h
last_choice text (Some x) long two h = (h.0, one_longest text x long two h.1)
