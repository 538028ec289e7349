-- What is left of a state of the machine without annotations. Own.
use Rattle.std.specs.Prelude.{ℕ, ◌==◌, Bool, false, not, ◌&&◌, ◌||◌, if◌then◌else◌, nat_lt, pos, List, [], ◌∷◌, map, Option, Some, None, slice_get}
use Rattle.object_types.specs.declared.references.Ref.{Ref}
use Rattle.object_types.specs.declared.records.Mode.{Mode}
use Rattle.object_types.specs.declared.records.Mode.TheVariants.{Absent, Open, Closed, Freed}
use Rattle.object_types.specs.declared.values.Value.{Value}
use Rattle.object_types.specs.declared.values.Value.TheVariants.{Int}
use Rattle.method.specs.declared.program.VariableInfo.{VariableInfo}
use Rattle.method.specs.declared.program.FunctionInfo.{FunctionInfo}
use Rattle.method.specs.declared.program.Program.{Program}
use Rattle.object_types.specs.References.{is_thread}
use Rattle.object_types.specs.Heap.{Heap, Record, nothing}
use Rattle.method.specs.Tables.{is_struct}
use Rattle.method.specs.Machine.{Activation, Thread, State}
use Rattle.plain_machine.specs.PlainCode.{CodeEnd, is_ghost_field, plain_code}
use Rattle.plain_machine.specs.PlainSteps.{PlainFrame, PlainThread, PlainState}

-- 0 in place of each ghost variable's value
abbrev pub concrete_locals : List VariableInfo → List Value → List Value
concrete_locals is [] = []
concrete_locals [] (v ∷ vs) = v ∷ concrete_locals [] vs
concrete_locals (i ∷ is) (v ∷ vs) = (if i.is_ghost then Int (pos 0) else v) ∷ concrete_locals is vs

-- open and closed objects are alive
abbrev pub plain_mode : Mode → Mode
plain_mode Absent = Absent
plain_mode Open = Open
plain_mode Closed = Open
plain_mode Freed = Freed

abbrev pub plain_record : Program → Record → Record
plain_record p r = record nothing { mode = plain_mode r.mode; fields = (λ f. if is_ghost_field p f then None else r.fields f) }

-- structs alone
abbrev pub plain_heap : Program → Heap → Heap
plain_heap p h = record { get = (λ o. if is_struct p o.ty then plain_record p (h.get o) else nothing); support = h.support }

abbrev pub plain_frame_of : Program → Option FunctionInfo → Activation → PlainFrame
plain_frame_of p None a = record { function = a.context.function; locals = a.locals; code = CodeEnd }
plain_frame_of p (Some f) a = record { function = a.context.function; locals = concrete_locals f.variables.items a.locals; code = plain_code p f a.code }

abbrev pub plain_frame : Program → Activation → PlainFrame
plain_frame p a = plain_frame_of p (slice_get p.functions.items a.context.function) a

abbrev pub plain_threads : Program → List Thread → List PlainThread
plain_threads p ths = map (λ (th : Thread). record { number = th.number; frames = map (plain_frame p) th.frames }) ths

-- a number into an increasing list, once
abbrev pub enter : ℕ → List ℕ → List ℕ
enter n [] = n ∷ []
enter n (k ∷ ks) = if nat_lt n k then n ∷ k ∷ ks else if k == n then k ∷ ks else k ∷ enter n ks

abbrev pub is_number_of : List Thread → ℕ → Bool
is_number_of [] n = false
is_number_of (th ∷ ths) n = (th.number == n) || is_number_of ths n

-- the threads that own something and aren't in the state
abbrev pub absent_owners : Heap → List Thread → List Ref → List ℕ
absent_owners h ths [] = []
absent_owners h ths (o ∷ os) =
    if is_thread (h.get o).owner && not (is_number_of ths (h.get o).owner.serial)
    then enter (h.get o).owner.serial (absent_owners h ths os)
    else absent_owners h ths os

abbrev pub erasure : Program → State → PlainState
erasure p s = record { heap = plain_heap p s.heap; threads = plain_threads p s.threads; skips = absent_owners s.heap s.threads s.heap.support }
