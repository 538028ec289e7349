-- Claims and quantifiers with their rows of conjuncts, which lie in vectors; and lists that grow by parts.
use Rattle.std.proofs.Common.{◌≡◌, ℕ, zero, suc, ◌+◌, ◌<◌, ◌≤◌, List, [], ◌∷◌, length, drop, get_or, Result, Ok, Err, IfOk, refl, sym, ap, ◌∙◌, subst, arith, Vec}
use Rattle.std.proofs.lemmas.List.{drop_more}
use Rattle.std.specs.declared.alloc.Global.{Global}
use Rattle.std.specs.declared.boxed.Box.{Box}
use Rattle.method.specs.declared.program.DeclaredType.{DeclaredType}
use Rattle.method.specs.declared.program.Spec as s
use Rattle.typed_program.specs.Trees as t
use Rattle.typed_program.specs.Views.{spec, in_row}
use Rattle.typed_program.proofs.Vectors.{claims, exists, claims_only}

-- what `\claims` of these parts says
pub claims_of : (whole : s.Spec) (x : Box s.Spec Global) (xs : Vec s.Spec Global) (y : s.Spec) (ys : List s.Spec) → whole ≡ s.Claims x xs → y ≡ x.value → ys ≡ xs.items → spec whole ≡ t.SClaims (spec y) (in_row ys)
claims_of whole x xs y ys is first rest = ap spec is ∙ (claims x xs ∙ λ i. t.SClaims (spec (sym first i)) (in_row (sym rest i)))

-- what `\exists` of these parts says
pub exists_of : (whole : s.Spec) (k : ℕ) (ty : DeclaredType) (x : Box s.Spec Global) (xs : Vec s.Spec Global) (y : s.Spec) (ys : List s.Spec) → whole ≡ s.Exists k ty x xs → y ≡ x.value → ys ≡ xs.items → spec whole ≡ t.SExists k ty (spec y) (in_row ys)
exists_of whole k ty x xs y ys is first rest = ap spec is ∙ (exists k ty x xs ∙ λ i. t.SExists k ty (spec (sym first i)) (in_row (sym rest i)))

-- what `\claims_only` of these parts says
pub claims_only_of : (whole : s.Spec) (k : ℕ) (x : Box s.Spec Global) (xs : Vec s.Spec Global) (y : s.Spec) (ys : List s.Spec) → whole ≡ s.ClaimsOnly k x xs → y ≡ x.value → ys ≡ xs.items → spec whole ≡ t.SClaimsOnly k (spec y) (in_row ys)
claims_only_of whole k x xs y ys is first rest = ap spec is ∙ (claims_only k x xs ∙ λ i. t.SClaimsOnly k (spec (sym first i)) (in_row (sym rest i)))

-- ---- what a loop over a row has done, and what is left

pub drop_at : {X : Type 0} (xs : List X) (i : ℕ) (y : X) → i < length xs → y ≡ get_or xs i y → drop i xs ≡ y ∷ drop (i + 1) xs
drop_at xs i y lt is = drop_more xs i y lt ∙ ap (λ z. z ∷ drop (i + 1) xs) (sym is)

pub drop_all : {X : Type 0} (xs : List X) (i : ℕ) → length xs ≤ i → drop i xs ≡ []
drop_all [] zero h = refl
drop_all [] (suc i) h = refl
drop_all (x ∷ xs) zero h = absurd (omega arith)
drop_all (x ∷ xs) (suc i) h = drop_all xs i (omega arith)

-- an answer's value is seen as another
pub told : {V W E : Type 0} (r : Result V E) (seen : V → W) (k l : W) → IfOk r (λ v. seen v ≡ k) → k ≡ l → IfOk r (λ v. seen v ≡ l)
told r seen k l h e = subst (λ m. IfOk r (λ v. seen v ≡ m)) e h

pub told_by : {V U W E : Type 0} (r : Result V E) (part : V → U) (seen : U → W) (k : U) (l : W) → IfOk r (λ v. part v ≡ k) → seen k ≡ l → IfOk r (λ v. seen (part v) ≡ l)
told_by (Ok v) part seen k l h e = ap seen h ∙ e
told_by (Err u) part seen k l h e = h
