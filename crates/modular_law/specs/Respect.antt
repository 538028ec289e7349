-- What an action owes to everybody, and the thread-modular law: checks of one thread at a time make a program safe. Own; that local checks suffice is the point of CAV 2010.
use Rattle.std.specs.Prelude.{◌≡◌, ◌≢◌, ℕ, ◌<◌, ◌||◌, ◌==◌, List, [], length, Some, slice_get, IsTrue, IsFalse}
use Rattle.object_types.specs.declared.references.Ref.{Ref}
use Rattle.object_types.specs.declared.values.Value.{Value}
use Rattle.method.specs.declared.program.Action.{Action}
use Rattle.method.specs.declared.program.VariableInfo.{VariableInfo}
use Rattle.method.specs.declared.program.FunctionInfo.{FunctionInfo}
use Rattle.method.specs.declared.program.Program.{Program}
use Rattle.object_types.specs.References.{thread, is_null}
use Rattle.object_types.specs.Heap.{Heap, writable}
use Rattle.method.specs.Tables.{local, in_type, type_of_field, is_field_of, is_struct}
use Rattle.method.specs.WellFormed.{IsHeapOf}
use Rattle.method.specs.Legal.{Good, Legal}
use Rattle.method.specs.Admissible.{Admissible}
use Rattle.method.specs.Rely.{Rely, Frame}
use Rattle.method.specs.Expressions.{Gave, Context}
use Rattle.method.specs.Actions.{InField, Supply, Fresh, Chosen, Picked, Progress, spot, starting, act, store, unwrap_object, wrap_object}
use Rattle.method.specs.Machine.{State, IsStart, IsFine, Safe}
use Rattle.method.specs.MachineLaws.{Choice, step_any, run_with}
use Rattle.method.specs.LocalRuns.{AllLocalOk}
use Rattle.method.specs.Typing.{WellTyped, action_ok}

-- The variables of a run of f are of their types.
pub record Fits (f : FunctionInfo) (l : List Value) : Type 0 where
  pub size : length l ≡ length f.variables.items
  pub each : (i : ℕ) (v : VariableInfo) → slice_get f.variables.items i ≡ Some v → IsTrue (in_type v.ty (local l i))

-- The function's run x may not write o: o was its thread's at its entry, and isn't in its writes list.
abbrev pub Unwritable : Context → Ref → Type 0
Unwritable x o = IsFalse (writable x.me x.entry x.writes o)

-- Thread u was there before any thread that the supply gives. Where the new references are listed there is no such thread.
abbrev pub IsOlder : Supply → ℕ → Type 0
IsOlder (Fresh n) u = u < n
IsOlder (Chosen rs) u = ⊥
IsOlder (Picked n rs) u = u < n

-- A step of x from heap h to heap k respects everybody: it is legal; and if k is good, each older thread but x's may rely on it,
-- and it is within the frame of all code that may write whatever x may, from any heap e and writes list w at that code's entry.
pub record Respects (p : Program) (x : Context) (supply : Supply) (h k : Heap) : Type 0 where
  pub legal : Legal p h k
  pub relied : Good p k → (u : ℕ) → thread u ≢ x.me → IsOlder supply u → Rely p (thread u) h k
  pub framed : Good p k → (e : Heap) (w : List Ref) → IsHeapOf p e → ((o : Ref) → IsFalse (writable x.me e w o) → Unwritable x o) → Frame p x.me h k e w

-- Who acts: a run of function f by an older thread, with variables of their types, on a good heap.
pub record Actor (p : Program) (x : Context) (f : FunctionInfo) (supply : Supply) (h : Heap) (l : List Value) : Type 0 where
  pub is : slice_get p.functions.items x.function ≡ Some f
  pub number : ℕ
  pub me : x.me ≡ thread number
  pub older : IsOlder supply number
  pub entry : Good p x.entry
  pub good : Good p h
  pub fits : Fits f l

-- Each action that passes its checks respects everybody: an action of the text, the unwrap and the wrap of an unwrapping block, the store of a call's value to a field.
pub record ActionsRespect (p : Program) : Type 0 where
  pub acts :
      (x : Context) (f : FunctionInfo) (supply : Supply) (h : Heap) (l : List Value) → Actor p x f supply h l → (choices : List Value) (line : ℕ) (b : Action) (n : ℕ) (g : Progress) →
      IsTrue (action_ok p f x.function b) → (act p x choices supply line b n h l).end ≡ Gave g → Respects p x supply h g.heap
  pub unwraps :
      (x : Context) (f : FunctionInfo) (supply : Supply) (h : Heap) (l : List Value) → Actor p x f supply h l → (line ty : ℕ) (o : Ref) (n : ℕ) (g : Progress) →
      IsTrue (is_struct p ty) → IsTrue (is_null o || (o.ty == ty)) → (unwrap_object p (spot x [] line) o n (starting h l supply)).end ≡ Gave g → Respects p x supply h g.heap
  pub wraps :
      (x : Context) (f : FunctionInfo) (supply : Supply) (h : Heap) (l : List Value) → Actor p x f supply h l → (line ty : ℕ) (o : Ref) (n : ℕ) (g : Progress) →
      IsTrue (is_struct p ty) → IsTrue (is_null o || (o.ty == ty)) → (wrap_object p (spot x [] line) ty o n (starting h l supply)).end ≡ Gave g → Respects p x supply h g.heap
  pub stores :
      (x : Context) (f : FunctionInfo) (supply : Supply) (h : Heap) (l : List Value) → Actor p x f supply h l → (line : ℕ) (o : Ref) (q : ℕ) (v : Value) (n : ℕ) (g : Progress) →
      IsTrue (is_null o || is_field_of p q o.ty) → IsTrue (in_type (type_of_field p q) v) → (store p (spot x [] line) (InField o q) v n (starting h l (Fresh 0))).end ≡ Gave g → Respects p x
      supply h g.heap

-- A well-typed program whose actions respect everybody, whose types are admissible and whose functions are locally safe is safe.
abbrev pub ActionsLaw : Type 0
ActionsLaw = (p : Program) → WellTyped p → ActionsRespect p → Admissible p → AllLocalOk p → Safe p

-- The same of runs in which each malloc and each claim takes any absent reference of its type.
abbrev pub AnyActionsLaw : Type 0
AnyActionsLaw =
    (p : Program) → WellTyped p → ActionsRespect p → Admissible p → AllLocalOk p →
    (s : State) → IsStart p s → Good p s.heap → (cs : List Choice) (c : Choice) → let s' = run_with p cs s in IsFine p s' (step_any p c s')
