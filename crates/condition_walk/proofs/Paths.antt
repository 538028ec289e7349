-- The paths of items.
use Rattle.std.specs.Prelude.{ℕ, ◌+◌, ◌==◌, Bool, true, false, not, ◌&&◌, if◌then◌else◌, List, [], ◌∷◌, ◌≡◌, length, Some}
use Rattle.std.proofs.Common.{ap, sym, ◌∙◌, subst}
use Rattle.terms.specs.Formula.{Formula}
use Rattle.method.specs.declared.program.StructInfo.{StructInfo}
use Rattle.conditions.specs.Admissible.{reflexive, stable}
use Rattle.conditions.specs.Conditions.{struct_conditions}
use Rattle.conditions.specs.Paths.{Done}
use Rattle.condition_code.specs.declared.walk.Walk.{Walk}
use Rattle.condition_code.proofs.Walks.{nowhere}
use Rattle.condition_walk.specs.Items.{WentBy}

-- nothing is written
pub stays : (walk : Walk) (fs : List Formula) → [] ≡ fs → WentBy walk walk fs
stays walk fs e = record { path = Done; went = nowhere (λ n f h. h); conditions = e }

pub same_conditions : {old new : Walk} {fs gs : List Formula} → fs ≡ gs → WentBy old new fs → WentBy old new gs
same_conditions {old} {new} e h = subst (λ (fs : List Formula). WentBy old new fs) e h

pub free_struct : (n : ℕ) (s : StructInfo) → (length s.invariants.items == 0 && not s.has_approval) ≡ true → [] ≡ struct_conditions n (Some s)
free_struct n s e = sym (ap (λ (b : Bool). if b then [] else reflexive (n + 3) ∷ stable (n + 3) ∷ []) e)

pub checked_struct : (n ty : ℕ) (s : StructInfo) → (length s.invariants.items == 0 && not s.has_approval) ≡ false → ty ≡ n + 3 → reflexive ty ∷ stable ty ∷ [] ≡ struct_conditions n (Some s)
checked_struct n ty s e f = ap (λ (k : ℕ). reflexive k ∷ stable k ∷ []) f ∙ sym (ap (λ (b : Bool). if b then [] else reflexive (n + 3) ∷ stable (n + 3) ∷ []) e)
