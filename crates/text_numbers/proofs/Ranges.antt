-- Lists of quantified formulas whose numbers stand in a range, one formula for a number.
use Rattle.std.specs.Prelude.{ℕ, ◌+◌, ◌<◌, ◌≤◌, List, [], ◌∷◌, ◌++◌, Contains}
use Rattle.std.proofs.Common.{◌≡◌, ◌⊎◌, refl, sym, subst, inl, inr, arith, ◌∙◌}
use Rattle.std.proofs.lemmas.List.Elements.{Contains-append_left, Contains-append_right, Contains-append_cases}
use Rattle.conditions.specs.Quantified.{QuantifiedFormula}
use Rattle.typed_program.specs.Statements.{Counters, plus, plus_formulas, some_formulas}
use Rattle.typed_laws.proofs.Basics.{contains_cases, contains_none}

-- ---- parts of lists

abbrev pub IsPart : List QuantifiedFormula → List QuantifiedFormula → Type 0
IsPart xs ys = (q : QuantifiedFormula) → Contains xs q → Contains ys q

pub in_none : (ys : List QuantifiedFormula) → IsPart [] ys
in_none ys q c = absurd (contains_none q c)

pub in_left : (xs ys : List QuantifiedFormula) → IsPart xs (xs ++ ys)
in_left xs ys q c = Contains-append_left xs ys q c

pub in_right : (xs ys : List QuantifiedFormula) → IsPart ys (xs ++ ys)
in_right xs ys q c = Contains-append_right xs ys q c

pub both_in : (xs ys zs : List QuantifiedFormula) → IsPart xs zs → IsPart ys zs → IsPart (xs ++ ys) zs
both_in xs ys zs h j q c = elim (Contains-append_cases xs ys q c) [ inl d ↦ h q d | inr d ↦ j q d ]

pub each_in : (xs ys vs ws : List QuantifiedFormula) → IsPart xs vs → IsPart ys ws → IsPart (xs ++ ys) (vs ++ ws)
each_in xs ys vs ws h j = both_in xs ys (vs ++ ws) (λ q c. in_left vs ws q (h q c)) (λ q c. in_right vs ws q (j q c))

-- ---- numbers in one range

-- the numbers of these formulas are among the c numbers from n on, and no two of the formulas share one
pub record Within (n c : ℕ) (qs : List QuantifiedFormula) : Type 0 where
  pub inside : (q : QuantifiedFormula) → Contains qs q → (n ≤ q.number) × (q.number < n + c)
  pub single : (q r : QuantifiedFormula) → Contains qs q → Contains qs r → q.number ≡ r.number → q ≡ r

pub none : (n c : ℕ) → Within n c []
none n c = record { inside = λ q h. absurd (contains_none q h); single = λ q r h. absurd (contains_none q h) }

pub wider : {n c : ℕ} {qs : List QuantifiedFormula} → Within n c qs → (m d : ℕ) → m ≤ n → n + c ≤ m + d → Within m d qs
wider {n} {c} {qs} h m d low high = record { inside = inside; single = h.single }
  where
    inside : (q : QuantifiedFormula) → Contains qs q → (m ≤ q.number) × (q.number < m + d)
    inside q at = let z = h.inside q at in let b = z.0 in let t = z.1 in (omega (arith, b, low), omega (arith, t, high))

pub part : {n c : ℕ} {qs : List QuantifiedFormula} → Within n c qs → (rs : List QuantifiedFormula) → IsPart rs qs → Within n c rs
part h rs is = record { inside = λ q at. h.inside q (is q at); single = λ q r at there. h.single q r (is q at) (is r there) }

pub behind : {n c : ℕ} {qs : List QuantifiedFormula} → Within n c qs → Within n c (qs ++ [])
behind {n} {c} {qs} h = part h (qs ++ []) (both_in qs [] qs (λ q at. at) (in_none qs))

pub join : {n c d : ℕ} {xs ys : List QuantifiedFormula} → Within n c xs → Within (n + c) d ys → Within n (c + d) (xs ++ ys)
join {n} {c} {d} {xs} {ys} h j = record { inside = inside; single = single }
  where
    inside : (q : QuantifiedFormula) → Contains (xs ++ ys) q → (n ≤ q.number) × (q.number < n + (c + d))
    inside q at =
        elim (Contains-append_cases xs ys q at) [
          | inl left ↦ let z = h.inside q left in let b = z.0 in let t = z.1 in (b, omega (arith, t))
          | inr right ↦ let z = j.inside q right in let b = z.0 in let t = z.1 in (omega (arith, b), omega (arith, t))
        ]

    apart : (q r : QuantifiedFormula) → Contains xs q → Contains ys r → q.number ≡ r.number → ⊥
    apart q r at there same = let t = (h.inside q at).1 in let b = (j.inside r there).0 in absurd (omega (arith, t, b, same))

    single : (q r : QuantifiedFormula) → Contains (xs ++ ys) q → Contains (xs ++ ys) r → q.number ≡ r.number → q ≡ r
    single q r at there same =
        elim (Contains-append_cases xs ys q at) [
          | inl left ↦ elim (Contains-append_cases xs ys r there) [ inl left' ↦ h.single q r left left' same | inr right' ↦ absurd (apart q r left right' same) ]
          | inr right ↦ elim (Contains-append_cases xs ys r there) [ inl left' ↦ absurd (apart r q left' right (sym same)) | inr right' ↦ j.single q r right right' same ]
        ]

-- one formula
pub alone : (q : QuantifiedFormula) (n : ℕ) → q.number ≡ n → Within n 1 (q ∷ [])
alone q n is = record { inside = inside; single = λ r w at there same. sym (it r at) ∙ it w there }
  where
    it : (r : QuantifiedFormula) → Contains (q ∷ []) r → q ≡ r
    it r at = elim (contains_cases q r [] at) [ inl e ↦ e | inr gone ↦ absurd (contains_none r gone) ]

    inside : (r : QuantifiedFormula) → Contains (q ∷ []) r → (n ≤ r.number) × (r.number < n + 1)
    inside r at = subst (λ (w : QuantifiedFormula). (n ≤ w.number) × (w.number < n + 1)) (it r at) (omega (arith, is), omega (arith, is))

-- one formula, before those in it
pub first : (q : QuantifiedFormula) {n c : ℕ} {qs : List QuantifiedFormula} → q.number ≡ n → Within (1 + n) c qs → Within n (1 + c) (q ∷ qs)
first q {n} {c} {qs} is h = join (alone q n is) (wider h (n + 1) c (omega arith) (omega arith))

-- ---- numbers in two ranges: of formulas in the text, and of ends of claims

-- numbers counted by c from n on, by the counter of formulas or by that of ends; no two of the formulas share one where the ends stand behind the formulas
pub record Spans (n c : Counters) (qs : List QuantifiedFormula) : Type 0 where
  pub inside : (q : QuantifiedFormula) → Contains qs q → ((n.formulas ≤ q.number) × (q.number < n.formulas + c.formulas)) ⊎ ((n.ended ≤ q.number) × (q.number < n.ended + c.ended))
  pub single : n.formulas + c.formulas ≤ n.ended → (q r : QuantifiedFormula) → Contains qs q → Contains qs r → q.number ≡ r.number → q ≡ r

pub empty : (n c : Counters) → Spans n c []
empty n c = record { inside = λ q h. absurd (contains_none q h); single = λ low q r h. absurd (contains_none q h) }

pub part_spans : {n c : Counters} {qs : List QuantifiedFormula} → Spans n c qs → (rs : List QuantifiedFormula) → IsPart rs qs → Spans n c rs
part_spans h rs is = record { inside = λ q at. h.inside q (is q at); single = λ low q r at there. h.single low q r (is q at) (is r there) }

pub behind_spans : {n c : Counters} {qs : List QuantifiedFormula} → Spans n c qs → Spans n c (qs ++ [])
behind_spans {n} {c} {qs} h = part_spans h (qs ++ []) (both_in qs [] qs (λ q at. at) (in_none qs))

pub in_text : {n : Counters} {k : ℕ} {qs : List QuantifiedFormula} → Within n.formulas k qs → Spans n (some_formulas k) qs
in_text h = record { inside = λ q at. inl (h.inside q at); single = λ low. h.single }

pub an_end : (q : QuantifiedFormula) (n : Counters) → q.number ≡ n.ended → Spans n (record { formulas = 0; ended = 1; sites = 0 }) (q ∷ [])
an_end q n is = let h = alone q n.ended is in record { inside = λ r at. inr (h.inside r at); single = λ low. h.single }

-- with plain numbers: f formulas and e ends in the first, g and i in the second
apart_there : (n m f e g i a b : ℕ) → n + (f + g) ≤ m → ((n ≤ a) × (a < n + f)) ⊎ ((m ≤ a) × (a < m + e)) → ((n + f ≤ b) × (b < n + f + g)) ⊎ ((m + e ≤ b) × (b < m + e + i)) → a ≡ b → ⊥
apart_there n m f e g i a b low (inl h) (inl j) same = let t = h.1 in let u = j.0 in absurd (omega (arith, t, u, same))
apart_there n m f e g i a b low (inl h) (inr j) same = let t = h.1 in let u = j.0 in absurd (omega (arith, t, u, same, low))
apart_there n m f e g i a b low (inr h) (inl j) same = let t = h.0 in let u = j.1 in absurd (omega (arith, t, u, same, low))
apart_there n m f e g i a b low (inr h) (inr j) same = let t = h.1 in let u = j.0 in absurd (omega (arith, t, u, same))

pub join_spans : {n c d : Counters} {xs ys : List QuantifiedFormula} → Spans n c xs → Spans (plus n c) d ys → Spans n (plus c d) (xs ++ ys)
join_spans {n} {c} {d} {xs} {ys} h j = record { inside = inside; single = single }
  where
    inside : (q : QuantifiedFormula) → Contains (xs ++ ys) q → ((n.formulas ≤ q.number) × (q.number < n.formulas + (c.formulas + d.formulas))) ⊎ ((n.ended ≤ q.number) × (q.number < n.ended + (c.ended + d.ended)))
    inside q at =
        elim (Contains-append_cases xs ys q at) [
          | inl left ↦ elim (h.inside q left) [
            | inl z ↦ let b = z.0 in let t = z.1 in inl (b, omega (arith, t))
            | inr z ↦ let b = z.0 in let t = z.1 in inr (b, omega (arith, t))
          ]
          | inr right ↦ elim (j.inside q right) [
            | inl z ↦ let b = z.0 in let t = z.1 in inl (omega (arith, b), omega (arith, t))
            | inr z ↦ let b = z.0 in let t = z.1 in inr (omega (arith, b), omega (arith, t))
          ]
        ]

    apart : n.formulas + (c.formulas + d.formulas) ≤ n.ended → (q r : QuantifiedFormula) → Contains xs q → Contains ys r → q.number ≡ r.number → ⊥
    apart low q r at there same = apart_there n.formulas n.ended c.formulas c.ended d.formulas d.ended q.number r.number low (h.inside q at) (j.inside r there) same

    single : n.formulas + (c.formulas + d.formulas) ≤ n.ended → (q r : QuantifiedFormula) → Contains (xs ++ ys) q → Contains (xs ++ ys) r → q.number ≡ r.number → q ≡ r
    single low q r at there same =
        elim (Contains-append_cases xs ys q at) [
          | inl left ↦ elim (Contains-append_cases xs ys r there) [ inl left' ↦ h.single (omega (arith, low)) q r left left' same | inr right' ↦ absurd (apart low q r left right' same) ]
          | inr right ↦ elim (Contains-append_cases xs ys r there) [ inl left' ↦ absurd (apart low r q left' right (sym same)) | inr right' ↦ j.single (omega (arith, low)) q r right right' same ]
        ]

-- counters that differ in nothing that numbers are taken from
pub at_counters : {n m c d : Counters} {qs : List QuantifiedFormula} → Spans n c qs → n.formulas ≡ m.formulas → n.ended ≡ m.ended → c.formulas ≡ d.formulas → c.ended ≡ d.ended → Spans m d qs
at_counters {n} {m} {c} {d} {qs} h e f g i = record { inside = inside; single = single }
  where
    inside : (q : QuantifiedFormula) → Contains qs q → ((m.formulas ≤ q.number) × (q.number < m.formulas + d.formulas)) ⊎ ((m.ended ≤ q.number) × (q.number < m.ended + d.ended))
    inside q at =
        elim (h.inside q at) [
          | inl z ↦ let b = z.0 in let t = z.1 in inl (omega (arith, b, e), omega (arith, t, e, g))
          | inr z ↦ let b = z.0 in let t = z.1 in inr (omega (arith, b, f), omega (arith, t, f, i))
        ]

    single : m.formulas + d.formulas ≤ m.ended → (q r : QuantifiedFormula) → Contains qs q → Contains qs r → q.number ≡ r.number → q ≡ r
    single low = h.single (omega (arith, low, e, f, g))

-- formulas in the text, and what stands behind them
pub text_first : {n d : Counters} {k : ℕ} {xs ys : List QuantifiedFormula} → Within n.formulas k xs → Spans (plus_formulas n k) d ys → Spans n (plus (some_formulas k) d) (xs ++ ys)
text_first {n} {d} {k} h j = join_spans (in_text {n = n} h) (at_counters {m = plus n (some_formulas k)} {d = d} j refl (omega arith) refl refl)
