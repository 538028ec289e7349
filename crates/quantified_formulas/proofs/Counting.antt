-- Numbers but one, and references one after another.
use Rattle.std.specs.Prelude.{◌≡◌, ℕ, suc, ◌+◌, ◌<◌, ◌≤◌, Bool, true, false, not, ◌==◌, if◌then◌else◌, ◌-◌, List, [], ◌∷◌, ◌++◌, length, drop, filter, replicate}
use Rattle.std.proofs.Common.{refl, ap, sym, ◌∙◌, get_or, append_assoc, arith}
use Rattle.std.proofs.lemmas.List.{drop_more, append-nil, drop_all}
use Rattle.terms.specs.declared.sort.Sort.{Sort}
use Rattle.terms.specs.declared.sort.Sort.TheVariants as sort
use Rattle.quantified_formulas.specs.Sorts.{without}

pub kept_one : (n : ℕ) (ms : List ℕ) (i : ℕ) (made next whole : List ℕ) → i < length ms → (get_or ms i 0 == n) ≡ false → next ≡ made ++ get_or ms i 0 ∷ [] → made ++ without n (drop i ms) ≡ whole → next ++ without n (drop (i + 1) ms) ≡ whole
kept_one n ms i made next whole below other e inv =
    let m = get_or ms i 0 in
    let rest = without n (drop (i + 1) ms) in
    let kept : without n (m ∷ drop (i + 1) ms) ≡ m ∷ rest = ap (λ (b : Bool). if not b then m ∷ rest else rest) other in
    ap (λ (xs : List ℕ). xs ++ rest) e ∙ append_assoc made (m ∷ []) rest ∙ ap (λ (xs : List ℕ). made ++ xs) (sym kept) ∙ ap (λ (xs : List ℕ). made ++ without n xs) (sym (drop_more ms i 0 below)) ∙ inv

pub left_out : (n : ℕ) (ms : List ℕ) (i : ℕ) (made whole : List ℕ) → i < length ms → (get_or ms i 0 == n) ≡ true → made ++ without n (drop i ms) ≡ whole → made ++ without n (drop (i + 1) ms) ≡ whole
left_out n ms i made whole below same inv =
    let m = get_or ms i 0 in
    let rest = without n (drop (i + 1) ms) in
    let gone : without n (m ∷ drop (i + 1) ms) ≡ rest = ap (λ (b : Bool). if not b then m ∷ rest else rest) same in
    ap (λ (xs : List ℕ). made ++ xs) (sym gone) ∙ ap (λ (xs : List ℕ). made ++ without n xs) (sym (drop_more ms i 0 below)) ∙ inv

-- one of those that are left is put behind the others
pub one_put : (xs next whole : List Sort) (left : ℕ) → 0 < left → next ≡ xs ++ sort.Ref ∷ [] → xs ++ replicate left sort.Ref ≡ whole → next ++ replicate (left - 1) sort.Ref ≡ whole
one_put xs next whole left some e inv =
    let n : suc (left - 1) ≡ left = omega arith in
    ap (λ (ys : List Sort). ys ++ replicate (left - 1) sort.Ref) e ∙ append_assoc xs (sort.Ref ∷ []) (replicate (left - 1) sort.Ref) ∙ ap (λ (k : ℕ). xs ++ replicate k sort.Ref) n ∙ inv

pub none_left : (xs whole : List Sort) (left : ℕ) → left ≡ 0 → xs ++ replicate left sort.Ref ≡ whole → xs ≡ whole
none_left xs whole left e inv = sym (append-nil xs) ∙ ap (λ (k : ℕ). xs ++ replicate k sort.Ref) (sym e) ∙ inv
