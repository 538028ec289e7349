-- Objects that annotations name, as the code has them. Own.
use Rattle.std.specs.Prelude.{◌≡◌, ℕ, List, Option, Some, None, Result, Ok, Err}
use Rattle.std.proofs.Common.{Vec, Global}
use Rattle.object_types.specs.declared.references.Ref.{Ref}
use Rattle.object_types.specs.Heap.{Heap}
use Rattle.method.specs.declared.program.Program.{Program}
use Rattle.method.specs.declared.program.Spec.{Spec}
use Rattle.method.specs.SpecValue.{Scene}
use Rattle.method.specs.Overflow.{Overflow}
use Rattle.method.specs.Expressions.{Spot}
use Rattle.method.specs.Actions.{items_of, items_overflow, wrapped_set, set_overflow}
use Rattle.spec_values.specs.Answers.{operands}
use Rattle.machine_values.specs.declared.stop.Stop.{Stop}
use Rattle.machine_values.specs.declared.stop.Stop.TheVariants.{Misfit, Fault, Wide, Exhausted, OutOfMemory}

-- What is worked out of annotations is such that Q, or it has a first overflow. It makes no check.
abbrev pub WorksOut : {X : Type 0} → Result X Stop → Option Overflow → (X → Type 0) → Type 0
WorksOut (Ok x) first Q = (first ≡ None) × Q x
WorksOut (Err Misfit) first Q = ⊥
WorksOut (Err (Fault kind line)) first Q = ⊥
WorksOut (Err (Wide w)) first Q = first ≡ Some (operands w)
WorksOut (Err Exhausted) first Q = ⊥
WorksOut (Err OutOfMemory) first Q = Unit {0}

-- the code has the objects that annotations of a function or a type name in a scene, or their first overflow
abbrev pub AreItems : Result (Vec Ref Global) Stop → Program → List Spec → Scene → Type 0
AreItems result p es s = WorksOut result (items_overflow p es s) (λ objects. objects.items ≡ items_of p es s)

-- the code has the set that wrap gives, or its first overflow
abbrev pub IsWrappedSet : Result (Vec Ref Global) Stop → Program → Spot → ℕ → Heap → Ref → Type 0
IsWrappedSet result p at_ ty h o = WorksOut result (set_overflow p at_ ty h o) (λ members. members.items ≡ wrapped_set p at_ ty h o)
