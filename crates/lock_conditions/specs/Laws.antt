-- What the conditions of the lock program are. Own.
use Rattle.std.specs.Prelude.{◌≡◌, List, Some, filter, length, map}
use Rattle.method.specs.declared.program.Item.{Item}
use Rattle.method.specs.declared.program.Item.TheVariants.{Struct, Function}
use Rattle.method.specs.Trace.{Memory}
use Rattle.method.specs.Typing.{same_item}
use Rattle.typed_program.specs.Rows.{tables}
use Rattle.typed_program.specs.Views as seen
use Rattle.conditions.specs.Conditions.{Condition, conditions}
use Rattle.lock_conditions.specs.Source.{lock_text}
use Rattle.lock_conditions.specs.LockProgram.{lock}
use Rattle.lock_conditions.specs.Labels.{lock_labels}
use Rattle.lock_conditions.specs.Types.{conditions_of_data, conditions_of_lock}
use Rattle.lock_conditions.specs.InitializeLock.{conditions_of_initialize_lock}
use Rattle.lock_conditions.specs.Acquire.{conditions_of_acquire}
use Rattle.lock_conditions.specs.Release.{conditions_of_release}
use Rattle.lock_conditions.specs.Worker.{conditions_of_worker}
use Rattle.lock_conditions.specs.Main.{conditions_of_main}

-- the typed program of the lock's text is the one that is spoken of here
abbrev pub TextIsLock : Type 0
TextIsLock = (m : Memory) → tables lock_text ≡ Some (seen.program (lock m))

-- it has 71 conditions, whose labels are these, in this order
abbrev pub LabelsAreThese : Type 0
LabelsAreThese =
    (m : Memory) →
    (length (conditions (lock m)) ≡ 71) × (map (λ (c : Condition). c.label) (conditions (lock m)) ≡ lock_labels)

-- an item's conditions are these, each with its label, in this order
abbrev pub AreConditionsOf : Item → List Condition → Type 0
AreConditionsOf item cs =
    (m : Memory) → filter (λ (c : Condition). same_item c.label.item item) (conditions (lock m)) ≡ cs

-- two of each type
abbrev pub DataConditions : Type 0
DataConditions = AreConditionsOf (Struct 0) conditions_of_data

abbrev pub LockConditions : Type 0
LockConditions = AreConditionsOf (Struct 1) conditions_of_lock

-- three stores, a wrap with a volatile owned set, and a clause at the end
abbrev pub InitializeLockConditions : Type 0
InitializeLockConditions = AreConditionsOf (Function 0) conditions_of_initialize_lock

-- a loop round an atomic block with an exchange and a ghost change, and two clauses at the end
abbrev pub AcquireConditions : Type 0
AcquireConditions = AreConditionsOf (Function 1) conditions_of_acquire

-- an atomic block with a store and a new member, and a clause at the end
abbrev pub ReleaseConditions : Type 0
ReleaseConditions = AreConditionsOf (Function 2) conditions_of_release

-- two calls round an unwrap, a store and a wrap with a fixed owned set
abbrev pub WorkerConditions : Type 0
WorkerConditions = AreConditionsOf (Function 3) conditions_of_worker

-- two allocations, a store, a wrap, a call, two claims and two starts of threads
abbrev pub MainConditions : Type 0
MainConditions = AreConditionsOf (Function 4) conditions_of_main
