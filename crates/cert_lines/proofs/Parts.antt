-- The same of a number and of a literal, and of words that are such.
use Rattle.std.proofs.Common.{◌≡◌, ℕ, suc, ◌+◌, ◌-◌, ◌%◌, ◌^◌, ◌<◌, ℤ, pos, negsuc, Bool, true, false, cond, eqb, List, [], ◌∷◌, ◌++◌, length, Option, Some, None, arith, refl, sym, ap, subst, ◌∙◌, inl, inr}
use Rattle.std.proofs.lemmas.Bool.{ne_eqb, eqb-true, eqb-false, cases_Bool, cases_eq, or_cases}
use Rattle.std.proofs.lemmas.List.{append-nil, nil_from_length}
use Rattle.std.proofs.lemmas.Option.{cond_some}
use Rattle.std.proofs.lemmas.Fmt.{decimal_by_steps_wide}
use Rattle.std.specs.Prelude.{◌||◌, decimal, FitsSigned}
use Rattle.std.specs.Int.{w128}
use Rattle.std.specs.Fmt.{signed_decimal}
use Rattle.std.specs.Char.{is_ascii_digit}
use Rattle.terms.specs.declared.term.Literal.{Literal}
use Rattle.cert_format.specs.Text.{literal_text}
use Rattle.cert_lines.specs.Numerals.{◌>>=◌, natural_at, number_at, literal_at, whole, number_in, argument_in, literal_in}
use Rattle.cert_lines.proofs.First.{number_plain, number_minus, literal_signed}
use Rattle.cert_lines.proofs.Naturals.{some_is, bind_some, natural_takes, natural_again, Stops, digit_from, digit_least}

pub guard_some : {A : Type 0} (b : Bool) (x y : A) → cond b None (Some x) ≡ Some y → (b ≡ false) × (x ≡ y)
guard_some true x y e = absurd cc
guard_some false x y e = (refl, cc)

-- ---- a number

minus_text : (c n : ℕ) (rest following : List ℕ) → c ≡ 45 → (n ≡ 0 → ⊥) → rest ≡ decimal n ++ following → (c ∷ rest) ≡ 45 ∷ (decimal (suc (n - 1)) ++ following)
minus_text c n rest following is above e =
    let size : suc (n - 1) ≡ n = omega arith in
    rw (is, size) (ap (λ (t : List ℕ). 45 ∷ t) e)

pub number_takes : (bytes : List ℕ) (x : ℤ × List ℕ) → number_at bytes ≡ Some x → (bytes ≡ signed_decimal x.0 ++ x.1) × FitsSigned w128 x.0
unfolding number_at
number_takes [] x e = absurd cc
number_takes (c ∷ rest) x e =
    elim (cases_eq c 45) [
      | inl is ↦
          let b = bind_some (natural_at (2 ^ 127) rest) (λ n. cond (eqb n.0 0) None (Some (negsuc (n.0 - 1), n.1))) x (sym (number_minus (c ∷ rest) c rest refl is) ∙ e) in
          let g = guard_some (eqb b.0.0 0) (negsuc (b.0.0 - 1), b.0.1) x b.2 in
          let t = natural_takes (2 ^ 127) rest b.0 (omega arith) b.1 in
          let above : b.0.0 ≡ 0 → ⊥ = eqb-false _ _ g.0 in
          let text = minus_text c b.0.0 rest b.0.1 is above t.0 in
          subst (λ (y : ℤ × List ℕ). ((c ∷ rest) ≡ signed_decimal y.0 ++ y.1) × FitsSigned w128 y.0) g.1 (text, record { sfits = omega arith })
      | inr other ↦
          let b = bind_some (natural_at (2 ^ 127 - 1) (c ∷ rest)) (λ n. Some (pos n.0, n.1)) x (sym (number_plain (c ∷ rest) c rest refl other) ∙ e) in
          let t = natural_takes (2 ^ 127 - 1) (c ∷ rest) b.0 (omega arith) b.1 in
          subst (λ (y : ℤ × List ℕ). ((c ∷ rest) ≡ signed_decimal y.0 ++ y.1) × FitsSigned w128 y.0) (some_is (pos b.0.0, b.0.1) x b.2) (t.0, record { sfits = omega arith })
    ]

-- a digit stands first
abbrev Leads : ℕ → List ℕ → Type 0
Leads n ds = (c : ℕ) × (rest : List ℕ) × (ds ≡ c ∷ rest) × (is_ascii_digit c ≡ true)

pub decimal_leads : (n : ℕ) → n < 10 ^ 64 → (c : ℕ) × (rest : List ℕ) × (decimal n ≡ c ∷ rest) × (is_ascii_digit c ≡ true)
decimal_leads n small = decimal_by_steps_wide Leads (λ m lt. (48 + m, [], refl, digit_from m lt)) (λ m ds le before. (before.0, before.1 ++ ((48 + m % 10) ∷ []), ap (λ (t : List ℕ). t ++ ((48 + m % 10) ∷ [])) before.2, before.3)) n small

pub number_again : (z : ℤ) (rest : List ℕ) → FitsSigned w128 z → Stops rest → number_at (signed_decimal z ++ rest) ≡ Some (z, rest)
number_again (pos n) rest fits stops =
    let small : n < 2 ^ 127 = fits.sfits in
    let f = decimal_leads n (omega arith) in
    let least = digit_least f.0 f.3 in
    number_plain (decimal n ++ rest) f.0 (f.1 ++ rest) (ap (λ (t : List ℕ). t ++ rest) f.2) (λ e. omega arith) ∙ ap (λ (o : Option (ℕ × List ℕ)). o >>= λ x. Some (pos x.0, x.1)) (natural_again (2 ^ 127 - 1) n rest (omega arith) (omega arith) stops)
number_again (negsuc n) rest fits stops =
    let small : n < 2 ^ 127 = fits.sfits in
    let above : eqb (suc n) 0 ≡ false = ne_eqb (suc n) 0 (λ e. omega arith) in
    let is : suc n - 1 ≡ n = omega arith in
    number_minus (45 ∷ (decimal (suc n) ++ rest)) 45 (decimal (suc n) ++ rest) refl refl ∙ rw (natural_again (2 ^ 127) (suc n) rest (omega arith) (omega arith) stops, above, is) refl

-- ---- a literal

sign_is : (c : ℕ) → (eqb c 43 || eqb c 45) ≡ true → cond (eqb c 43) 43 45 ≡ c
sign_is c h =
    elim (cases_eq c 43) [
      | inl is ↦ rw is refl
      | inr other ↦ elim (or_cases (eqb c 43) (eqb c 45) h) [
        | inl is ↦ absurd (other (eqb-true c 43 is))
        | inr is ↦ rw (ne_eqb c 43 other) (sym (eqb-true c 45 is))
      ]
    ]

pub literal_takes : (bytes : List ℕ) (x : Literal × List ℕ) → literal_at bytes ≡ Some x → (bytes ≡ literal_text x.0 ++ x.1) × (x.0.term < 2 ^ 32)
unfolding literal_at
literal_takes [] x e = absurd cc
literal_takes (c ∷ rest) x e =
    elim (cases_Bool (eqb c 43 || eqb c 45)) [
      | inl signed ↦
          let b = bind_some (natural_at (2 ^ 32 - 1) rest) (λ n. Some (record { term = n.0; positive = eqb c 43 }, n.1)) x (sym (literal_signed (c ∷ rest) c rest refl signed) ∙ e) in
          let t = natural_takes (2 ^ 32 - 1) rest b.0 (omega arith) b.1 in
          let made : Literal × List ℕ = (record { term = b.0.0; positive = eqb c 43 }, b.0.1) in
          let text : (c ∷ rest) ≡ literal_text made.0 ++ made.1 = rw (sign_is c signed) (ap (λ (t : List ℕ). c ∷ t) t.0) in
          subst (λ (y : Literal × List ℕ). ((c ∷ rest) ≡ literal_text y.0 ++ y.1) × (y.0.term < 2 ^ 32)) (some_is made x b.2) (text, omega arith)
      | inr other ↦ absurd (let none : literal_at (c ∷ rest) ≡ None = rw other refl in cc)
    ]

signed_again : (positive : Bool) (term : ℕ) (rest : List ℕ) → term < 2 ^ 32 → Stops rest → literal_at ((cond positive 43 45 ∷ decimal term) ++ rest) ≡ Some (record { term = term; positive = positive }, rest)
signed_again true term rest small stops = literal_signed (43 ∷ (decimal term ++ rest)) 43 (decimal term ++ rest) refl refl ∙ rw (natural_again (2 ^ 32 - 1) term rest (omega arith) (omega arith) stops) refl
signed_again false term rest small stops = literal_signed (45 ∷ (decimal term ++ rest)) 45 (decimal term ++ rest) refl refl ∙ rw (natural_again (2 ^ 32 - 1) term rest (omega arith) (omega arith) stops) refl

pub literal_again : (l : Literal) (rest : List ℕ) → l.term < 2 ^ 32 → Stops rest → literal_at (literal_text l ++ rest) ≡ Some (l, rest)
literal_again l rest small stops = signed_again l.positive l.term rest small stops

-- ---- words

whole_takes : {A : Type 0} (x : A × List ℕ) (y : A) → whole x ≡ Some y → (x.1 ≡ []) × (x.0 ≡ y)
whole_takes x y e =
    let g = cond_some (eqb (length x.1) 0) x.0 y e in
    (nil_from_length x.1 (eqb-true _ _ g.0), g.1)

pub number_in_takes : (w : List ℕ) (n : ℤ) → number_in w ≡ Some n → (w ≡ signed_decimal n) × FitsSigned w128 n
unfolding number_in
number_in_takes w n e =
    let b = bind_some (number_at w) whole n e in
    let g = whole_takes b.0 n b.2 in
    let t = number_takes w b.0 b.1 in
    (t.0 ∙ ap (λ (r : List ℕ). signed_decimal b.0.0 ++ r) g.0 ∙ append-nil (signed_decimal b.0.0) ∙ ap signed_decimal g.1, subst (FitsSigned w128) g.1 t.1)

pub number_in_again : (n : ℤ) → FitsSigned w128 n → number_in (signed_decimal n) ≡ Some n
unfolding number_in
number_in_again n fits = ap (λ (w : List ℕ). number_at w >>= whole) (sym (append-nil (signed_decimal n))) ∙ rw (number_again n [] fits tt) refl

pub argument_in_takes : (w : List ℕ) (a : ℕ) → argument_in w ≡ Some a → (w ≡ decimal a) × (a < 2 ^ 32)
unfolding argument_in
argument_in_takes w a e =
    let b = bind_some (natural_at (2 ^ 32 - 1) w) whole a e in
    let g = whole_takes b.0 a b.2 in
    let t = natural_takes (2 ^ 32 - 1) w b.0 (omega arith) b.1 in
    (t.0 ∙ ap (λ (r : List ℕ). decimal b.0.0 ++ r) g.0 ∙ append-nil (decimal b.0.0) ∙ ap decimal g.1, omega (arith, t.1, g.1))

pub argument_in_again : (a : ℕ) → a < 2 ^ 32 → argument_in (decimal a) ≡ Some a
unfolding argument_in
argument_in_again a small = ap (λ (w : List ℕ). natural_at (2 ^ 32 - 1) w >>= whole) (sym (append-nil (decimal a))) ∙ rw (natural_again (2 ^ 32 - 1) a [] (omega arith) (omega arith) tt) refl

pub literal_in_takes : (w : List ℕ) (l : Literal) → literal_in w ≡ Some l → (w ≡ literal_text l) × (l.term < 2 ^ 32)
unfolding literal_in
literal_in_takes w l e =
    let b = bind_some (literal_at w) whole l e in
    let g = whole_takes b.0 l b.2 in
    let t = literal_takes w b.0 b.1 in
    (t.0 ∙ ap (λ (r : List ℕ). literal_text b.0.0 ++ r) g.0 ∙ append-nil (literal_text b.0.0) ∙ ap literal_text g.1, subst (λ (x : Literal). x.term < 2 ^ 32) g.1 t.1)

pub literal_in_again : (l : Literal) → l.term < 2 ^ 32 → literal_in (literal_text l) ≡ Some l
unfolding literal_in
literal_in_again l small = ap (λ (w : List ℕ). literal_at w >>= whole) (sym (append-nil (literal_text l))) ∙ rw (literal_again l [] small tt) refl
