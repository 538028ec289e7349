-- Which form an annotation has, by how many parts it has.
use Rattle.std.proofs.Common.{◌≡◌, ℕ, suc, ◌+◌, Bool, true, false, ℤ, List, [], ◌∷◌, length, map, Option, Some, None, refl, sym, ap, ◌∙◌, arith, true≢false}
use Rattle.std.specs.declared.alloc.Global.{Global}
use Rattle.std.specs.declared.boxed.Box.{Box}
use Rattle.method.specs.declared.program.DeclaredType.{DeclaredType}
use Rattle.method.specs.declared.program.Operator.{Operator}
use Rattle.method.specs.declared.program.Comparison.{Comparison}
use Rattle.method.specs.declared.program.Conjunct.{Conjunct}
use Rattle.method.specs.declared.program.Spec as s
use Rattle.method.specs.declared.program.Spec.TheVariants as v
use Rattle.typed_program.specs.Trees as t
use Rattle.typed_program.specs.Trees.{Spec}
use Rattle.typed_program.specs.Shapes.{size, opened}
use Rattle.typed_program.specs.Views.{spec, specs}
use Rattle.elab_shapes.specs.declared.forms.RowForm.{RowForm}
use Rattle.elab_shapes.specs.Parts.{Part, parts, with_parts}
use Rattle.elab_shapes.specs.RowForms.{row_form}
use Rattle.elab_shapes.proofs.ByParts.{opened_parts}

abbrev is_some_form : Option RowForm → Bool
is_some_form (Some f) = true
is_some_form None = false

some_form : (f : RowForm) → Some f ≡ None → ⊥
some_form f e = true≢false (ap is_some_form e)

-- an annotation without parts that is of none of the other forms
pub last_leaf : (x : s.Spec) → ((z : ℤ) → x ≡ s.Number z → ⊥) → ((b : Bool) → x ≡ s.Truth b → ⊥) → (x ≡ s.Null → ⊥) → ((i : ℕ) → x ≡ s.Variable i → ⊥) → ((i : ℕ) → x ≡ s.Bound i → ⊥) → (x ≡ s.This → ⊥) → (x ≡ s.Me → ⊥) → ((c : Conjunct) → x ≡ s.Has c → ⊥)
    → length (parts (spec x)) ≡ 0 → t.SResult ≡ spec x
last_leaf (v.Number z) n0 n1 n2 n3 n4 n5 n6 n7 few = absurd (n0 _ refl)
last_leaf (v.Truth z) n0 n1 n2 n3 n4 n5 n6 n7 few = absurd (n1 _ refl)
last_leaf v.Null n0 n1 n2 n3 n4 n5 n6 n7 few = absurd (n2 refl)
last_leaf (v.Variable z) n0 n1 n2 n3 n4 n5 n6 n7 few = absurd (n3 _ refl)
last_leaf (v.Bound z) n0 n1 n2 n3 n4 n5 n6 n7 few = absurd (n4 _ refl)
last_leaf v.This n0 n1 n2 n3 n4 n5 n6 n7 few = absurd (n5 refl)
last_leaf v.Me n0 n1 n2 n3 n4 n5 n6 n7 few = absurd (n6 refl)
last_leaf (v.Has z) n0 n1 n2 n3 n4 n5 n6 n7 few = absurd (n7 _ refl)
last_leaf v.Result n0 n1 n2 n3 n4 n5 n6 n7 few = refl
last_leaf _ n0 n1 n2 n3 n4 n5 n6 n7 few = absurd (omega (arith, few))

-- one that is a hole
pub hole_opened : (k : ℕ) (x : s.Spec) → ((z : ℤ) → x ≡ s.Number z → ⊥) → ((b : Bool) → x ≡ s.Truth b → ⊥) → (x ≡ s.Null → ⊥) → ((c : Conjunct) → x ≡ s.Has c → ⊥)
    → length (parts (spec x)) ≡ 0 → t.SVariable k ≡ opened k (spec x)
hole_opened k (v.Number z) n0 n1 n2 n3 few = absurd (n0 _ refl)
hole_opened k (v.Truth z) n0 n1 n2 n3 few = absurd (n1 _ refl)
hole_opened k v.Null n0 n1 n2 n3 few = absurd (n2 refl)
hole_opened k (v.Has z) n0 n1 n2 n3 few = absurd (n3 _ refl)
hole_opened k (v.Variable i) n0 n1 n2 n3 few = refl
hole_opened k (v.Bound i) n0 n1 n2 n3 few = refl
hole_opened k v.This n0 n1 n2 n3 few = refl
hole_opened k v.Me n0 n1 n2 n3 few = refl
hole_opened k v.Result n0 n1 n2 n3 few = refl
hole_opened k _ n0 n1 n2 n3 few = absurd (omega (arith, few))

pub hole_counted : (x : s.Spec) → ((z : ℤ) → x ≡ s.Number z → ⊥) → ((b : Bool) → x ≡ s.Truth b → ⊥) → (x ≡ s.Null → ⊥) → ((c : Conjunct) → x ≡ s.Has c → ⊥)
    → length (parts (spec x)) ≡ 0 → 1 ≡ size (spec x)
hole_counted (v.Number z) n0 n1 n2 n3 few = absurd (n0 _ refl)
hole_counted (v.Truth z) n0 n1 n2 n3 few = absurd (n1 _ refl)
hole_counted v.Null n0 n1 n2 n3 few = absurd (n2 refl)
hole_counted (v.Has z) n0 n1 n2 n3 few = absurd (n3 _ refl)
hole_counted (v.Variable i) n0 n1 n2 n3 few = refl
hole_counted (v.Bound i) n0 n1 n2 n3 few = refl
hole_counted v.This n0 n1 n2 n3 few = refl
hole_counted v.Me n0 n1 n2 n3 few = refl
hole_counted v.Result n0 n1 n2 n3 few = refl
hole_counted _ n0 n1 n2 n3 few = absurd (omega (arith, few))

-- one with one part that is of none of the other forms
pub last_single : (x : s.Spec) (a : Spec) → ((b : Box s.Spec Global) (i : ℕ) → x ≡ s.Field b i → ⊥) → ((b : Box s.Spec Global) → x ≡ s.Closed b → ⊥) → ((b : Box s.Spec Global) → x ≡ s.Owner b → ⊥) → ((b : Box s.Spec Global) → x ≡ s.ClaimCount b → ⊥) → ((b : Box s.Spec Global) → x ≡ s.Not b → ⊥) → ((b : Box s.Spec Global) → x ≡ s.Negate b → ⊥) → ((b : Box s.Spec Global) → x ≡ s.Old b → ⊥) → ((b : Box s.Spec Global) → x ≡ s.Unchanged b → ⊥) → ((b : Box s.Spec Global) → x ≡ s.Wrapped b → ⊥) → ((b : Box s.Spec Global) → x ≡ s.Wrapped0 b → ⊥) → ((b : Box s.Spec Global) → x ≡ s.Mutable b → ⊥) → ((b : Box s.Spec Global) → x ≡ s.Fresh b → ⊥)
    → row_form (spec x) ≡ None → length (parts (spec x)) ≡ 1 → t.SLists a ≡ with_parts (spec x) (a ∷ [])
last_single (v.Field' q z w) a n0 n1 n2 n3 n4 n5 n6 n7 n8 n9 n10 n11 none few = absurd (n0 _ _ refl)
last_single (v.Closed' q z) a n0 n1 n2 n3 n4 n5 n6 n7 n8 n9 n10 n11 none few = absurd (n1 _ refl)
last_single (v.Owner' q z) a n0 n1 n2 n3 n4 n5 n6 n7 n8 n9 n10 n11 none few = absurd (n2 _ refl)
last_single (v.ClaimCount' q z) a n0 n1 n2 n3 n4 n5 n6 n7 n8 n9 n10 n11 none few = absurd (n3 _ refl)
last_single (v.Not' q z) a n0 n1 n2 n3 n4 n5 n6 n7 n8 n9 n10 n11 none few = absurd (n4 _ refl)
last_single (v.Negate' q z) a n0 n1 n2 n3 n4 n5 n6 n7 n8 n9 n10 n11 none few = absurd (n5 _ refl)
last_single (v.Old' q z) a n0 n1 n2 n3 n4 n5 n6 n7 n8 n9 n10 n11 none few = absurd (n6 _ refl)
last_single (v.Unchanged' q z) a n0 n1 n2 n3 n4 n5 n6 n7 n8 n9 n10 n11 none few = absurd (n7 _ refl)
last_single (v.Wrapped' q z) a n0 n1 n2 n3 n4 n5 n6 n7 n8 n9 n10 n11 none few = absurd (n8 _ refl)
last_single (v.Wrapped0' q z) a n0 n1 n2 n3 n4 n5 n6 n7 n8 n9 n10 n11 none few = absurd (n9 _ refl)
last_single (v.Mutable' q z) a n0 n1 n2 n3 n4 n5 n6 n7 n8 n9 n10 n11 none few = absurd (n10 _ refl)
last_single (v.Fresh' q z) a n0 n1 n2 n3 n4 n5 n6 n7 n8 n9 n10 n11 none few = absurd (n11 _ refl)
last_single (v.Claims' q z m xs) a n0 n1 n2 n3 n4 n5 n6 n7 n8 n9 n10 n11 none few = absurd (some_form _ none)
last_single (v.Exists' r y q z m xs) a n0 n1 n2 n3 n4 n5 n6 n7 n8 n9 n10 n11 none few = absurd (some_form _ none)
last_single (v.ClaimsOnly' r q z m xs) a n0 n1 n2 n3 n4 n5 n6 n7 n8 n9 n10 n11 none few = absurd (some_form _ none)
last_single (v.Lists' q z) a n0 n1 n2 n3 n4 n5 n6 n7 n8 n9 n10 n11 none few = refl
last_single _ a n0 n1 n2 n3 n4 n5 n6 n7 n8 n9 n10 n11 none few = absurd (omega (arith, few))

-- one with two
pub last_pair : (x : s.Spec) (a c : Spec) → ((b d : Box s.Spec Global) → x ≡ s.Member b d → ⊥) → ((o : Operator) (b d : Box s.Spec Global) → x ≡ s.Arithmetic o b d → ⊥) → ((o : Comparison) (b d : Box s.Spec Global) → x ≡ s.Compare o b d → ⊥) → ((b d : Box s.Spec Global) → x ≡ s.And b d → ⊥) → ((b d : Box s.Spec Global) → x ≡ s.Or b d → ⊥) → ((b d : Box s.Spec Global) → x ≡ s.Implies b d → ⊥) → ((b d : Box s.Spec Global) → x ≡ s.Iff b d → ⊥) → ((n : ℕ) (ty : DeclaredType) (b d : Box s.Spec Global) → x ≡ s.ForAll n ty b d → ⊥)
    → row_form (spec x) ≡ None → length (parts (spec x)) ≡ 2 → t.SClaimsObject a c ≡ with_parts (spec x) (a ∷ c ∷ [])
last_pair (v.Member' q z w u) a c n0 n1 n2 n3 n4 n5 n6 n7 none few = absurd (n0 _ _ refl)
last_pair (v.Arithmetic' r q z w u) a c n0 n1 n2 n3 n4 n5 n6 n7 none few = absurd (n1 _ _ _ refl)
last_pair (v.Compare' r q z w u) a c n0 n1 n2 n3 n4 n5 n6 n7 none few = absurd (n2 _ _ _ refl)
last_pair (v.And' q z w u) a c n0 n1 n2 n3 n4 n5 n6 n7 none few = absurd (n3 _ _ refl)
last_pair (v.Or' q z w u) a c n0 n1 n2 n3 n4 n5 n6 n7 none few = absurd (n4 _ _ refl)
last_pair (v.Implies' q z w u) a c n0 n1 n2 n3 n4 n5 n6 n7 none few = absurd (n5 _ _ refl)
last_pair (v.Iff' q z w u) a c n0 n1 n2 n3 n4 n5 n6 n7 none few = absurd (n6 _ _ refl)
last_pair (v.ForAll' r y q z w u) a c n0 n1 n2 n3 n4 n5 n6 n7 none few = absurd (n7 _ _ _ _ refl)
last_pair (v.Claims' q z m xs) a c n0 n1 n2 n3 n4 n5 n6 n7 none few = absurd (some_form _ none)
last_pair (v.Exists' r y q z m xs) a c n0 n1 n2 n3 n4 n5 n6 n7 none few = absurd (some_form _ none)
last_pair (v.ClaimsOnly' r q z m xs) a c n0 n1 n2 n3 n4 n5 n6 n7 none few = absurd (some_form _ none)
last_pair (v.ClaimsObject' q z w u) a c n0 n1 n2 n3 n4 n5 n6 n7 none few = refl
last_pair _ a c n0 n1 n2 n3 n4 n5 n6 n7 none few = absurd (omega (arith, few))

-- as many are made as there are parts
many_seen : (xs : List s.Spec) → length (specs xs) ≡ length xs
many_seen [] = refl
many_seen (x ∷ xs) = ap suc (many_seen xs)

many_mapped : (f : Part → Spec) (ps : List Part) → length (map f ps) ≡ length ps
many_mapped f [] = refl
many_mapped f (p ∷ ps) = ap suc (many_mapped f ps)

many_opened : (k : ℕ) (ps : List Part) → length (opened_parts k ps) ≡ length ps
many_opened k [] = refl
many_opened k (p ∷ ps) = ap suc (many_opened (k + size p.spec) ps)

pub as_many_made : (f : Part → Spec) (ps : List Part) (made : List s.Spec) → specs made ≡ map f ps → length made ≡ length ps
as_many_made f ps made e = sym (many_seen made) ∙ (ap (λ (zs : List Spec). length zs) e ∙ many_mapped f ps)

pub as_many_opened : (k : ℕ) (ps : List Part) (made : List s.Spec) → specs made ≡ opened_parts k ps → length made ≡ length ps
as_many_opened k ps made e = sym (many_seen made) ∙ (ap (λ (zs : List Spec). length zs) e ∙ many_opened k ps)
