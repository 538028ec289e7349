-- The same of a whole number.
use Rattle.std.proofs.Common.{◌≡◌, ℕ, suc, ◌+◌, ◌-◌, ◌%◌, ◌^◌, ◌<◌, ℤ, pos, negsuc, Bool, true, false, cond, eqb, List, [], ◌∷◌, ◌++◌, Option, Some, None, arith, refl, sym, ap, subst, ◌∙◌, inl, inr}
use Rattle.std.proofs.lemmas.Bool.{ne_eqb, eqb-false, cases_eq}
use Rattle.std.proofs.lemmas.Fmt.{decimal_by_steps_wide}
use Rattle.std.specs.Prelude.{decimal, FitsSigned}
use Rattle.std.specs.Int.{w128}
use Rattle.std.specs.Fmt.{signed_decimal}
use Rattle.std.specs.Char.{is_ascii_digit}
use Rattle.decimal_text.specs.Reading.{◌>>=◌, natural_at, number_at}
use Rattle.decimal_text.proofs.First.{number_plain, number_minus}
use Rattle.decimal_text.proofs.Words.{some_is, bind_some, natural_takes, natural_again, Stops, digit_from, digit_least}

pub guard_some : {A : Type 0} (b : Bool) (x y : A) → cond b None (Some x) ≡ Some y → (b ≡ false) × (x ≡ y)
guard_some true x y e = absurd cc
guard_some false x y e = (refl, cc)

minus_text : (c n : ℕ) (rest following : List ℕ) → c ≡ 45 → (n ≡ 0 → ⊥) → rest ≡ decimal n ++ following → (c ∷ rest) ≡ 45 ∷ (decimal (suc (n - 1)) ++ following)
minus_text c n rest following is above e =
    let size : suc (n - 1) ≡ n = omega arith in
    rw (is, size) (ap (λ (t : List ℕ). 45 ∷ t) e)

pub number_takes : (bytes : List ℕ) (x : ℤ × List ℕ) → number_at bytes ≡ Some x → (bytes ≡ signed_decimal x.0 ++ x.1) × FitsSigned w128 x.0
unfolding number_at
number_takes [] x e = absurd cc
number_takes (c ∷ rest) x e =
    elim (cases_eq c 45) [
      | inl is ↦
          let b = bind_some (natural_at (2 ^ 127) rest) (λ n. cond (eqb n.0 0) None (Some (negsuc (n.0 - 1), n.1))) x (sym (number_minus (c ∷ rest) c rest refl is) ∙ e) in
          let g = guard_some (eqb b.0.0 0) (negsuc (b.0.0 - 1), b.0.1) x b.2 in
          let t = natural_takes (2 ^ 127) rest b.0 (omega arith) b.1 in
          let above : b.0.0 ≡ 0 → ⊥ = eqb-false _ _ g.0 in
          let text = minus_text c b.0.0 rest b.0.1 is above t.0 in
          subst (λ (y : ℤ × List ℕ). ((c ∷ rest) ≡ signed_decimal y.0 ++ y.1) × FitsSigned w128 y.0) g.1 (text, record { sfits = omega arith })
      | inr other ↦
          let b = bind_some (natural_at (2 ^ 127 - 1) (c ∷ rest)) (λ n. Some (pos n.0, n.1)) x (sym (number_plain (c ∷ rest) c rest refl other) ∙ e) in
          let t = natural_takes (2 ^ 127 - 1) (c ∷ rest) b.0 (omega arith) b.1 in
          subst (λ (y : ℤ × List ℕ). ((c ∷ rest) ≡ signed_decimal y.0 ++ y.1) × FitsSigned w128 y.0) (some_is (pos b.0.0, b.0.1) x b.2) (t.0, record { sfits = omega arith })
    ]

-- a digit stands first
abbrev Leads : ℕ → List ℕ → Type 0
Leads n ds = (c : ℕ) × (rest : List ℕ) × (ds ≡ c ∷ rest) × (is_ascii_digit c ≡ true)

pub decimal_leads : (n : ℕ) → n < 10 ^ 64 → (c : ℕ) × (rest : List ℕ) × (decimal n ≡ c ∷ rest) × (is_ascii_digit c ≡ true)
decimal_leads n small = decimal_by_steps_wide Leads (λ m lt. (48 + m, [], refl, digit_from m lt)) (λ m ds le before. (before.0, before.1 ++ ((48 + m % 10) ∷ []), ap (λ (t : List ℕ). t ++ ((48 + m % 10) ∷ [])) before.2, before.3)) n small

pub number_again : (z : ℤ) (rest : List ℕ) → FitsSigned w128 z → Stops rest → number_at (signed_decimal z ++ rest) ≡ Some (z, rest)
number_again (pos n) rest fits stops =
    let small : n < 2 ^ 127 = fits.sfits in
    let f = decimal_leads n (omega arith) in
    let least = digit_least f.0 f.3 in
    number_plain (decimal n ++ rest) f.0 (f.1 ++ rest) (ap (λ (t : List ℕ). t ++ rest) f.2) (λ e. omega arith) ∙ ap (λ (o : Option (ℕ × List ℕ)). o >>= λ x. Some (pos x.0, x.1)) (natural_again (2 ^ 127 - 1) n rest (omega arith) (omega arith) stops)
number_again (negsuc n) rest fits stops =
    let small : n < 2 ^ 127 = fits.sfits in
    let above : eqb (suc n) 0 ≡ false = ne_eqb (suc n) 0 (λ e. omega arith) in
    let is : suc n - 1 ≡ n = omega arith in
    number_minus (45 ∷ (decimal (suc n) ++ rest)) 45 (decimal (suc n) ++ rest) refl refl ∙ rw (natural_again (2 ^ 127) (suc n) rest (omega arith) (omega arith) stops, above, is) refl
