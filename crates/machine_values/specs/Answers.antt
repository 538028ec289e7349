-- What the code answers where the definitions say what an item of code comes to. Own.
use Rattle.std.specs.Prelude.{◌≡◌, ℕ, ℤ, Bool, true, false, List, [], ◌∷◌, Option, Some, None, Result, Ok, Err}
use Rattle.int_ranges.specs.declared.exact.Wide.{Wide as WideResult}
use Rattle.int_ranges.specs.Exact.{Leaves}
use Rattle.object_types.specs.declared.values.Value.{Value}
use Rattle.object_types.specs.declared.values.Value.TheVariants.{Int}
use Rattle.method.specs.declared.program.CheckKind.{CheckKind}
use Rattle.method.specs.Overflow.{Overflow}
use Rattle.method.specs.Expressions.{Outcome, Unfit, Fault, Gives, Tested}
use Rattle.spec_values.specs.Answers.{operands}
use Rattle.spec_eval.specs.declared.env.EvalFault.{EvalFault}
use Rattle.spec_eval.specs.declared.env.EvalFault.TheVariants.{Wide as WideValue, OutOfMemory as NoMemory}
use Rattle.machine_values.specs.declared.stop.Stop.{Stop}
use Rattle.machine_values.specs.declared.stop.Stop.TheVariants.{Misfit as NotEnabled, Fault as Faulted, Wide, Exhausted, OutOfMemory}

-- a value of an annotation that leaves 128 bits, as a stop
abbrev pub stop_of : EvalFault → Stop
stop_of (WideValue w) = Wide w
stop_of NoMemory = OutOfMemory

-- The item comes to nothing for this reason, or, where the code's numbers are exhausted, U holds: that they run out on the item's way. Of want of memory the definitions say nothing.
abbrev pub StopsOr : {A : Type 0} → Type 0 → Stop → Outcome A → Type 0
StopsOr U NotEnabled o = o ≡ Unfit
StopsOr U (Faulted kind line) o = (n : ℕ) × (o ≡ Fault n kind line)
StopsOr U (Wide w) o = o.overflow ≡ Some (operands w)
StopsOr U Exhausted o = U
StopsOr U OutOfMemory o = Unit {0}

-- the same of an item that takes no number: it never exhausts them
abbrev pub Stops : {A : Type 0} → Stop → Outcome A → Type 0
Stops stop o = StopsOr ⊥ stop o

-- the item comes to this value, and no value of an annotation on the way leaves 128 bits; or it comes to nothing
abbrev pub Yields : {A : Type 0} → Result A Stop → Outcome A → Type 0
Yields (Ok a) o = o ≡ Gives a
Yields (Err stop) o = Stops stop o

-- the same, where the value is related to what the item comes to, and where numbers may run out
abbrev pub ComesOr : {X A : Type 0} → Type 0 → Result X Stop → (X → Outcome A → Type 0) → Outcome A → Type 0
ComesOr U (Ok x) R o = R x o
ComesOr U (Err stop) R o = StopsOr U stop o

-- the same of an item that never exhausts them
abbrev pub Comes : {X A : Type 0} → Result X Stop → (X → Outcome A → Type 0) → Outcome A → Type 0
Comes result R o = ComesOr ⊥ result R o

-- the exact result is this number, or leaves 128 bits as it does
abbrev pub IsExact : Result ℤ WideResult → ℤ → Type 0
IsExact (Ok a) z = a ≡ z
IsExact (Err w) z = Leaves z

-- the same of a result that is a value
abbrev pub IsExactValue : Result Value WideResult → ℤ → Type 0
IsExactValue (Ok v) z = v ≡ Int z
IsExactValue (Err w) z = Leaves z

-- Whether a test of annotations holds, or its first overflow. Such a test makes no check and has no choices.
abbrev pub Tests : Result Bool Stop → Tested → Type 0
Tests (Ok b) t = (t.overflow ≡ None) × (b ≡ t.holds)
Tests (Err NotEnabled) t = ⊥
Tests (Err (Faulted kind line)) t = ⊥
Tests (Err (Wide w)) t = t.overflow ≡ Some (operands w)
Tests (Err Exhausted) t = ⊥
Tests (Err OutOfMemory) t = Unit {0}

-- the value of an annotation's expression, or its first overflow
abbrev pub Worked : Result Value Stop → Option Overflow → Value → Type 0
Worked (Ok v) first z = (first ≡ None) × (v ≡ z)
Worked (Err NotEnabled) first z = ⊥
Worked (Err (Faulted kind line)) first z = ⊥
Worked (Err (Wide w)) first z = first ≡ Some (operands w)
Worked (Err Exhausted) first z = ⊥
Worked (Err OutOfMemory) first z = Unit {0}

-- What checks of one kind come to: all pass, or the first that doesn't fails, or has an overflow on its way.
pub data Verdict : Type 0 where
  Passes : Verdict
  Fails : CheckKind → (line : ℕ) → Verdict
  Overflows : Overflow → Verdict

abbrev pub one_verdict : ℕ → CheckKind → Option Overflow → Bool → Verdict → Verdict
one_verdict line kind (Some x) b more = Overflows x
one_verdict line kind None true more = more
one_verdict line kind None false more = Fails kind line

abbrev pub verdict : ℕ → CheckKind → List Tested → Verdict
verdict line kind [] = Passes
verdict line kind (t ∷ ts) = one_verdict line kind t.overflow t.holds (verdict line kind ts)

-- the code has this verdict
abbrev pub Finds : Result (Unit {0}) Stop → Verdict → Type 0
Finds (Ok u) v = v ≡ Passes
Finds (Err NotEnabled) v = ⊥
Finds (Err (Faulted kind line)) v = v ≡ Fails kind line
Finds (Err (Wide w)) v = v ≡ Overflows (operands w)
Finds (Err Exhausted) v = ⊥
Finds (Err OutOfMemory) v = Unit {0}

-- a test that has no annotation
abbrev pub plain : Bool → Tested
plain b = record { overflow = None; holds = b }
