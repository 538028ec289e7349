-- When two trees, or two lists of them, are the same.
use Rattle.std.proofs.Common.{◌≡◌, ℕ, suc, ◌+◌, ◌<◌, ◌≤◌, ◌==◌, Bool, true, false, not, ◌&&◌, ℤ, List, [], ◌∷◌, length, drop, get_or, refl, sym, ap, ◌∙◌, arith, true≢false}
use Rattle.std.proofs.lemmas.Bool.Decides.{nat_tests}
use Rattle.std.specs.declared.alloc.Global.{Global}
use Rattle.std.specs.declared.boxed.Box.{Box}
use Rattle.std.specs.Cmp.Lexicographic.{pointwise}
use Rattle.method.specs.declared.program.Sort.{Sort}
use Rattle.method.specs.declared.program.Sort.TheVariants.{IntSort, RefSort}
use Rattle.method.specs.declared.program.Spec as s
use Rattle.method.specs.declared.program.Spec.TheVariants as v
use Rattle.method.specs.declared.program.Operator.{Operator}
use Rattle.method.specs.declared.program.Comparison.{Comparison}
use Rattle.typed_program.specs.Trees as t
use Rattle.typed_program.specs.Trees.{Spec, Specs, Stop, With}
use Rattle.typed_program.specs.Shapes.{same, all_same, same_int, same_bool, operator_number, comparison_number, same_sort, same_sorts}
use Rattle.typed_program.specs.Views.{spec}
use Rattle.elab_shapes.specs.Parts.{Part, plain, conjuncts, parts}
use Rattle.elab_shapes.specs.Forms.{form, same_form, same_detail}
use Rattle.elab_shapes.proofs.Rows.{drop_at, drop_all}

-- a comparison of sorts, place by place
pub sorts_alike : (E : Sort → Sort → Bool) → ((x y : Sort) → E x y ≡ same_sort x y) → (xs ys : List Sort) → pointwise E xs ys ≡ same_sorts xs ys
sorts_alike E h [] [] = refl
sorts_alike E h [] (y ∷ ys) = refl
sorts_alike E h (x ∷ xs) [] = refl
sorts_alike E h (x ∷ xs) (y ∷ ys) = λ i. h x y i && sorts_alike E h xs ys i

by_cases : (E : Sort → Sort → Bool) → E IntSort IntSort ≡ true → E RefSort RefSort ≡ true → E IntSort RefSort ≡ false → E RefSort IntSort ≡ false → (x y : Sort) → E x y ≡ same_sort x y
by_cases E a b c d IntSort IntSort = a
by_cases E a b c d IntSort RefSort = c
by_cases E a b c d RefSort IntSort = d
by_cases E a b c d RefSort RefSort = b

pub told_alike : (E : Sort → Sort → Bool) → E IntSort IntSort ≡ true → E RefSort RefSort ≡ true → E IntSort RefSort ≡ false → E RefSort IntSort ≡ false → (xs ys : List Sort) (r : Bool) → r ≡ pointwise E xs ys → r ≡ same_sorts xs ys
told_alike E a b c d xs ys r h = h ∙ sorts_alike E (by_cases E a b c d) xs ys

-- ---- trees, part by part

and_true : (b : Bool) → (b && true) ≡ b
and_true true = refl
and_true false = refl

and_false : (b : Bool) → (b && false) ≡ false
and_false true = refl
and_false false = refl

-- parts alike, one by one
abbrev pub alike : List Part → List Part → Bool
alike [] [] = true
alike (p ∷ ps) (q ∷ qs) = same p.spec q.spec && alike ps qs
alike _ _ = false

rows_alike : (xs ys : Specs) → alike (conjuncts xs) (conjuncts ys) ≡ all_same xs ys
rows_alike Stop Stop = refl
rows_alike Stop (With y ys) = refl
rows_alike (With x xs) Stop = refl
rows_alike (With x xs) (With y ys) = ap (λ b. same x y && b) (rows_alike xs ys)

unlike_lengths : (xs ys : Specs) → (length (conjuncts xs) ≡ length (conjuncts ys) → ⊥) → all_same xs ys ≡ false
unlike_lengths Stop Stop h = absurd (h refl)
unlike_lengths Stop (With y ys) h = refl
unlike_lengths (With x xs) Stop h = refl
unlike_lengths (With x xs) (With y ys) h = ap (λ b. same x y && b) (unlike_lengths xs ys (λ e. h (ap suc e))) ∙ and_false (same x y)

claims_alike : (x y : Spec) (xs ys : Specs) → (true && ((length (plain x ∷ conjuncts xs) == length (plain y ∷ conjuncts ys)) && (same x y && alike (conjuncts xs) (conjuncts ys)))) ≡ (same x y && all_same xs ys)
claims_alike x y xs ys = go (length (plain x ∷ conjuncts xs) == length (plain y ∷ conjuncts ys)) refl
  where
    go : (b : Bool) → (length (plain x ∷ conjuncts xs) == length (plain y ∷ conjuncts ys)) ≡ b → (b && (same x y && alike (conjuncts xs) (conjuncts ys))) ≡ (same x y && all_same xs ys)
    go true e = ap (λ c. same x y && c) (rows_alike xs ys)
    go false e = sym (ap (λ c. same x y && c) (unlike_lengths xs ys (λ h. grind (arith, nat_tests, e, h))) ∙ and_false (same x y))

-- two conjuncts are the same if they are of one form, with the same detail, and their parts are the same
pub same_by_parts : (x y : Spec) → (same_form x y && (same_detail x y && alike (parts x) (parts y))) ≡ same x y
same_by_parts (t.SNumber x) (t.SNumber y) = and_true (same_int x y)
same_by_parts (t.STruth x) (t.STruth y) = and_true (same_bool x y)
same_by_parts t.SNull t.SNull = refl
same_by_parts (t.SVariable i) (t.SVariable j) = and_true (i == j)
same_by_parts (t.SField x i) (t.SField y j) = ap (λ b. (i == j) && b) (and_true (same x y))
same_by_parts (t.SArithmetic o x u) (t.SArithmetic r y v) = ap (λ b. (operator_number o == operator_number r) && (same x y && b)) (and_true (same u v))
same_by_parts (t.SCompare o x u) (t.SCompare r y v) = ap (λ b. (comparison_number o == comparison_number r) && (same x y && b)) (and_true (same u v))
same_by_parts (t.SChoose x u w) (t.SChoose y v z) = ap (λ b. same x y && (same u v && b)) (and_true (same w z))
same_by_parts (t.SClaims x xs) (t.SClaims y ys) = claims_alike x y xs ys
same_by_parts (t.SClosed x) (t.SClosed y) = and_true (same x y)
same_by_parts (t.SOwner x) (t.SOwner y) = and_true (same x y)
same_by_parts (t.SClaimCount x) (t.SClaimCount y) = and_true (same x y)
same_by_parts (t.SNot x) (t.SNot y) = and_true (same x y)
same_by_parts (t.SNegate x) (t.SNegate y) = and_true (same x y)
same_by_parts (t.SLists x) (t.SLists y) = and_true (same x y)
same_by_parts (t.SMember x u) (t.SMember y v) = ap (λ b. same x y && b) (and_true (same u v))
same_by_parts (t.SAnd x u) (t.SAnd y v) = ap (λ b. same x y && b) (and_true (same u v))
same_by_parts (t.SOr x u) (t.SOr y v) = ap (λ b. same x y && b) (and_true (same u v))
same_by_parts (t.SImplies x u) (t.SImplies y v) = ap (λ b. same x y && b) (and_true (same u v))
same_by_parts (t.SIff x u) (t.SIff y v) = ap (λ b. same x y && b) (and_true (same u v))
same_by_parts (t.SClaimsObject x u) (t.SClaimsObject y v) = ap (λ b. same x y && b) (and_true (same u v))
same_by_parts _ _ = refl

-- so they are if all of that holds
pub same_so_far : (x y : Spec) (a b : Bool) → a ≡ same_form x y → a ≡ true → b ≡ same_detail x y → b ≡ true → alike (parts x) (parts y) ≡ same x y
same_so_far x y a b e at f bt = (λ i. sym (sym e ∙ at) i && (sym (sym f ∙ bt) i && alike (parts x) (parts y))) ∙ same_by_parts x y

pub other_form : (x y : Spec) (a : Bool) → a ≡ same_form x y → a ≡ false → false ≡ same x y
other_form x y a e is = (λ i. sym (sym e ∙ is) i && (same_detail x y && alike (parts x) (parts y))) ∙ same_by_parts x y

pub other_detail : (x y : Spec) (a b : Bool) → a ≡ same_form x y → a ≡ true → b ≡ same_detail x y → b ≡ false → false ≡ same x y
other_detail x y a b e at f is = (λ i. sym (sym e ∙ at) i && (sym (sym f ∙ is) i && alike (parts x) (parts y))) ∙ same_by_parts x y

-- of one form, and so with as many parts
pub as_many : (x y : Spec) (a : Bool) → a ≡ same_form x y → a ≡ true → length (parts x) ≡ length (parts y)
as_many x y a e is = go (not (form x == 0)) (form x == form y) (length (parts x) == length (parts y)) refl (sym e ∙ is)
  where
    go : (b c d : Bool) → (length (parts x) == length (parts y)) ≡ d → (b && (c && d)) ≡ true → length (parts x) ≡ length (parts y)
    go true true true m h = grind (arith, nat_tests, m)
    go true true false m h = absurd (true≢false (sym h))
    go true false d m h = absurd (true≢false (sym h))
    go false c d m h = absurd (true≢false (sym h))

-- the next two parts are compared
pub one_compared : (ps qs : List Part) (i : ℕ) (p q : Part) → i < length ps → i < length qs → p ≡ get_or ps i p → q ≡ get_or qs i q → alike (drop i ps) (drop i qs) ≡ (same p.spec q.spec && alike (drop (i + 1) ps) (drop (i + 1) qs))
one_compared ps qs i p q lt mt is js = λ k. alike (drop_at ps i p lt is k) (drop_at qs i q mt js k)

pub one_alike : (ps qs : List Part) (i : ℕ) (p q : Part) → i < length ps → i < length qs → p ≡ get_or ps i p → q ≡ get_or qs i q → (b whole : Bool) → b ≡ same p.spec q.spec → b ≡ true → alike (drop i ps) (drop i qs) ≡ whole → alike (drop (i + 1) ps) (drop (i + 1) qs) ≡ whole
one_alike ps qs i p q lt mt is js b whole e bt g = ap (λ c. c && alike (drop (i + 1) ps) (drop (i + 1) qs)) (sym (sym e ∙ bt)) ∙ (sym (one_compared ps qs i p q lt mt is js) ∙ g)

pub one_differs : (ps qs : List Part) (i : ℕ) (p q : Part) → i < length ps → i < length qs → p ≡ get_or ps i p → q ≡ get_or qs i q → (b whole : Bool) → b ≡ same p.spec q.spec → b ≡ false → alike (drop i ps) (drop i qs) ≡ whole → false ≡ whole
one_differs ps qs i p q lt mt is js b whole e bf g = ap (λ c. c && alike (drop (i + 1) ps) (drop (i + 1) qs)) (sym (sym e ∙ bf)) ∙ (sym (one_compared ps qs i p q lt mt is js) ∙ g)

pub all_compared : (ps qs : List Part) (i : ℕ) (whole : Bool) → length ps ≤ i → length qs ≤ i → alike (drop i ps) (drop i qs) ≡ whole → true ≡ whole
all_compared ps qs i whole le me g = (λ k. alike (sym (drop_all ps i le) k) (sym (drop_all qs i me) k)) ∙ g

-- a form without a detail
pub no_detail : (x : s.Spec) (y : Spec) → ((z : ℤ) → x ≡ s.Number z → ⊥) → ((b : Bool) → x ≡ s.Truth b → ⊥) → ((i : ℕ) → x ≡ s.Variable i → ⊥) → ((b : Box s.Spec Global) (i : ℕ) → x ≡ s.Field b i → ⊥)
    → ((o : Operator) (a b : Box s.Spec Global) → x ≡ s.Arithmetic o a b → ⊥) → ((o : Comparison) (a b : Box s.Spec Global) → x ≡ s.Compare o a b → ⊥) → true ≡ same_detail (spec x) y
no_detail (v.Number z) y a b c d e f = absurd (a _ refl)
no_detail (v.Truth z) y a b c d e f = absurd (b _ refl)
no_detail (v.Variable i) y a b c d e f = absurd (c _ refl)
no_detail (v.Field' q x i) y a b c d e f = absurd (d _ _ refl)
no_detail (v.Arithmetic' o q x r w) y a b c d e f = absurd (e _ _ _ refl)
no_detail (v.Compare' o q x r w) y a b c d e f = absurd (f _ _ _ refl)
no_detail _ y a b c d e f = refl
