-- One step of a loop over a list, with what is left of it, where something is counted.
use Rattle.std.proofs.Common.{◌≡◌, ℕ, ◌+◌, ◌<◌, ◌≤◌, List, [], ◌∷◌, ◌++◌, length, drop, get_or, map, sym, ap, ◌∙◌, append_assoc, arith}
use Rattle.elab_shapes.proofs.Rows.{drop_at, drop_all}
use Rattle.typed_program.specs.Statements.{Counters, plus}

module _ {S X Y Z : Type 0} (see : X → Y) (walk : S → List Y → List Z) (made : S → Y → List Z) (next : S → Y → S) (law : (s : S) (y : Y) (ys : List Y) → walk s (y ∷ ys) ≡ made s y ++ walk (next s y) ys) where
  -- what is made of an element is added
  pub one_more : (xs : List X) (i : ℕ) (x : X) → i < length xs → x ≡ get_or xs i x → (s r : S) → r ≡ next s (see x) → (old new total : List Z) → new ≡ old ++ made s (see x)
      → old ++ walk s (map see (drop i xs)) ≡ total → new ++ walk r (map see (drop (i + 1) xs)) ≡ total
  one_more xs i x lt is s r e old new total f g =
      let rest = map see (drop (i + 1) xs) in
      ap (λ k. new ++ walk k rest) e ∙ (ap (λ ns. ns ++ walk (next s (see x)) rest) f ∙ (append_assoc old (made s (see x)) (walk (next s (see x)) rest)
      ∙ (ap (λ ns. old ++ ns) (sym (ap (λ zs. walk s (map see zs)) (drop_at xs i x lt is) ∙ law s (see x) rest)) ∙ g)))

-- sums of what stands before
abbrev before_of : ℕ → ℕ → ℕ → Counters
before_of a b c = record { formulas = a; ended = b; sites = c }

pub plus_assoc : (x y z : Counters) → plus (plus x y) z ≡ plus x (plus y z)
plus_assoc x y z =
    let p : (x.formulas + y.formulas) + z.formulas ≡ x.formulas + (y.formulas + z.formulas) = omega arith in
    let q : (x.ended + y.ended) + z.ended ≡ x.ended + (y.ended + z.ended) = omega arith in
    let r : (x.sites + y.sites) + z.sites ≡ x.sites + (y.sites + z.sites) = omega arith in
    λ i. before_of (p i) (q i) (r i)

pub plus_none : (x z : Counters) → z ≡ before_of 0 0 0 → plus x z ≡ x
plus_none x z e =
    let p : x.formulas + 0 ≡ x.formulas = omega arith in
    let q : x.ended + 0 ≡ x.ended = omega arith in
    let r : x.sites + 0 ≡ x.sites = omega arith in
    ap (plus x) e ∙ λ i. before_of (p i) (q i) (r i)

module _ {X Y : Type 0} (see : X → Y) (total : List Y → Counters) (size : Y → Counters) (law : (y : Y) (ys : List Y) → total (y ∷ ys) ≡ plus (size y) (total ys)) where
  -- one more is counted
  pub counted : (xs : List X) (i : ℕ) (x : X) → i < length xs → x ≡ get_or xs i x → (n m k : Counters) → m ≡ plus n (size (see x)) → plus n (total (map see (drop i xs))) ≡ k → plus m (total (map see (drop (i + 1) xs))) ≡ k
  counted xs i x lt is n m k e f =
      let rest = map see (drop (i + 1) xs) in
      ap (λ b. plus b (total rest)) e ∙ (plus_assoc n (size (see x)) (total rest) ∙ (ap (plus n) (sym (ap (λ zs. total (map see zs)) (drop_at xs i x lt is) ∙ law (see x) rest)) ∙ f))

  -- all are counted
  pub counted_all : total [] ≡ before_of 0 0 0 → (xs : List X) (i : ℕ) → length xs ≤ i → (n k : Counters) → plus n (total (map see (drop i xs))) ≡ k → n ≡ k
  counted_all empty xs i h n k e = sym (plus_none n (total (map see (drop i xs))) (ap (λ zs. total (map see zs)) (drop_all xs i h) ∙ empty)) ∙ e
