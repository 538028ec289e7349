-- The program of a lock without its annotations, run by computation: one thread makes the lock and starts two, which take and give it back one after the other. Own.
use Rattle.std.specs.Prelude.{◌≡◌, ◌&&◌, ◌||◌, ℕ, pos, true, false, List, [], ◌∷◌, ◌++◌, map, refl}
use Rattle.object_types.specs.declared.references.Ref.{Ref}
use Rattle.object_types.specs.declared.records.Mode.{Mode}
use Rattle.object_types.specs.declared.records.Mode.TheVariants.{Open, Freed}
use Rattle.object_types.specs.declared.values.Value.{Value}
use Rattle.object_types.specs.declared.values.Value.TheVariants.{Int, Ref as Refers}
use Rattle.method.specs.declared.program.CheckKind.TheVariants.{Write, Free}
use Rattle.method.specs.declared.program.Expr.TheVariants.{Variable, Number}
use Rattle.method.specs.declared.program.Program.{Program}
use Rattle.object_types.specs.References.{ref, thread, same_ref}
use Rattle.object_types.specs.Sets.{is_in, every}
use Rattle.object_types.specs.Heap.{put, hand_over, empty_heap, nothing}
use Rattle.method.specs.Tables.{in_type, read}
use Rattle.method.specs.Invariants.{inv_holds}
use Rattle.method.specs.StableSet.{in_stable_set}
use Rattle.method.specs.Actions.{act}
use Rattle.method.specs.Machine.{Event, step, run}
use Rattle.method.specs.Trace.{Memory, vec, event, Said, Line, Fails, Waits}
use Rattle.method.specs.RowLock.{program, start, events, fn_Release, fn_main}
use Rattle.plain_machine.specs.GhostApart.{stmt_apart, action_apart, is_plain_type}
use Rattle.method.specs.declared.program.VariableInfo.{VariableInfo}
use Rattle.method.specs.declared.program.FieldInfo.{FieldInfo}
use Rattle.method.specs.declared.program.Target.TheVariants.{FieldOf}
use Rattle.method.specs.declared.program.RightSide.TheVariants.{Compute}
use Rattle.method.specs.declared.program.Simple.TheVariants.{Assign}
use Rattle.method.specs.declared.program.Inner.TheVariants.{Inside}
use Rattle.method.specs.declared.program.Action.TheVariants.{Atomic, Simply}
use Rattle.method.specs.declared.program.Stmt.{end_of-Stmt, more_of-Stmt}
use Rattle.method.specs.declared.program.Stmt.TheVariants.{Do, If'}
use Rattle.plain_machine.specs.PlainCode.{CodeEnd, FreeItem}
use Rattle.plain_machine.specs.PlainSteps.{PlainThread, PlainState, PlainAnswer, NotEnabled, Faulted, Next, after_plain, plain_step, plain_run}
use Rattle.plain_machine.specs.Erasure.{erasure}

abbrev pub plain_word : PlainAnswer → Said
plain_word NotEnabled = Waits
plain_word (Faulted kind line) = Fails kind line
plain_word (Next s line) = Line line

abbrev pub plain_trace : Program → List Event → PlainState → List Said
plain_trace p [] s = []
plain_trace p (e ∷ es) s = plain_word (plain_step p s e) ∷ plain_trace p es (after_plain s (plain_step p s e))

-- what a plain heap says of a reference, with the values of these fields
pub data PlainLook : Type 0 where
  sees : Mode → List Value → PlainLook

abbrev pub plain_look : Program → PlainState → Ref → List ℕ → PlainLook
plain_look p s o fs = sees (s.heap.get o).mode (map (read p s.heap o) fs)

module _ (m : Memory) where
  abbrev pub lock : Program
  lock = program m

  abbrev pub lock_start : PlainState
  lock_start = erasure lock (start m)

  abbrev pub ten : List Event
  ten = event 1 (Int (pos 1) ∷ Int (pos 0) ∷ []) ∷ event 1 (Int (pos 1) ∷ Int (pos 5) ∷ []) ∷ event 1 [] ∷ event 1 [] ∷ event 1 [] ∷ event 1 [] ∷ event 1 [] ∷ event 1 [] ∷ event 1 [] ∷ event 1 [] ∷ []

  abbrev pub eleven : ℕ → List Event
  eleven t = event t [] ∷ event t [] ∷ event t [] ∷ event t [] ∷ event t [] ∷ event t [] ∷ event t [] ∷ event t [] ∷ event t [] ∷ event t [] ∷ event t [] ∷ []

  abbrev pub all_events : List Event
  all_events = ten ++ eleven 2 ++ eleven 3

  abbrev pub worker_lines : List Said
  worker_lines = Line 48 ∷ Line 25 ∷ Line 26 ∷ Line 28 ∷ Line 31 ∷ Line 32 ∷ Line 50 ∷ Line 52 ∷ Line 40 ∷ Line 43 ∷ Line 53 ∷ []

  pub lock_lines : plain_trace lock all_events lock_start ≡ (Line 56 ∷ Line 57 ∷ Line 58 ∷ Line 59 ∷ Line 61 ∷ Line 16 ∷ Line 20 ∷ Line 64 ∷ Line 65 ∷ Line 67 ∷ []) ++ worker_lines ++ worker_lines
  unfolding plain_step in_type same_ref put is_in
  lock_lines = refl

  abbrev pub lock_end : PlainState
  lock_end = plain_run lock all_events lock_start

  pub lock_looks : plain_look lock lock_end (ref 3 1) (0 ∷ []) ∷ plain_look lock lock_end (ref 4 1) (1 ∷ []) ∷ [] ≡ sees Open (Int (pos 1) ∷ []) ∷ sees Open (Int (pos 0) ∷ []) ∷ []
  unfolding plain_step in_type same_ref put is_in
  lock_looks = refl

  pub lock_skips : lock_end.skips ≡ []
  unfolding plain_step in_type same_ref put is_in
  lock_skips = refl

  -- The machine's run of the same program in another order leaves, without its annotations, the same threads, and the same of both objects.
  pub lock_threads : (erasure lock (run lock (events m) (start m))).threads ≡ lock_end.threads
  unfolding plain_step step act in_type same_ref put is_in inv_holds hand_over in_stable_set
  lock_threads = refl

  pub lock_same : plain_look lock (erasure lock (run lock (events m) (start m))) (ref 3 1) (0 ∷ []) ∷ plain_look lock (erasure lock (run lock (events m) (start m))) (ref 4 1) (1 ∷ []) ∷ [] ≡ sees Open (Int (pos 1) ∷ []) ∷ sees Open (Int (pos 0) ∷ []) ∷ []
  unfolding plain_step step act in_type same_ref put is_in inv_holds hand_over in_stable_set
  lock_same = refl

  -- no object at NULL: main's first malloc gives none, and the test would be false; without it line 59 faults
  pub null_malloc : plain_trace lock (event 1 (Int (pos 1) ∷ Int (pos 0) ∷ []) ∷ event 1 (Int (pos 0) ∷ []) ∷ event 1 [] ∷ event 1 [] ∷ event 1 [] ∷ []) lock_start ≡ Line 56 ∷ Line 57 ∷ Line 58 ∷ Line 67 ∷ Waits ∷ []
  unfolding plain_step in_type same_ref put is_in
  null_malloc = refl

  -- a malloc takes a choice for each concrete field, and no more
  pub choices_fit : plain_trace lock (event 1 (Int (pos 1) ∷ []) ∷ event 1 (Int (pos 1) ∷ Int (pos 0) ∷ Refers (ref 0 0) ∷ []) ∷ event 1 (Int (pos 1) ∷ Int (pos 0) ∷ []) ∷ []) lock_start ≡ Waits ∷ Waits ∷ Line 56 ∷ []
  unfolding plain_step in_type same_ref put is_in
  choices_fit = refl

  -- an object that someone else freed may be neither written nor freed
  abbrev pub freed : PlainState → Ref → PlainState
  freed s o = record s { heap = put s.heap o (record (s.heap.get o) { mode = Freed }) }

  pub write_faults : plain_trace lock (event 1 [] ∷ []) (freed (plain_run lock (event 1 (Int (pos 1) ∷ Int (pos 0) ∷ []) ∷ event 1 (Int (pos 1) ∷ Int (pos 5) ∷ []) ∷ event 1 [] ∷ []) lock_start) (ref 3 1)) ≡ Fails Write 59 ∷ []
  unfolding plain_step in_type same_ref put is_in
  write_faults = refl

  pub free_faults : plain_trace lock (event 1 [] ∷ event 1 [] ∷ []) (record lock_start { heap = put empty_heap (ref 3 1) (record nothing { mode = Open }); threads = record { number = 1; frames = record { function = 4; locals = Refers (ref 3 1) ∷ []; code = FreeItem 7 (Variable 0) (FreeItem 8 (Variable 0) CodeEnd) } ∷ [] } ∷ [] }) ≡ Line 7 ∷ Fails Free 8 ∷ []
  unfolding plain_step in_type same_ref put is_in
  free_faults = refl

  -- an owner that isn't in the state: the first spawn leaves its number out
  pub skips_two : (plain_run lock ten (record lock_start { skips = 2 ∷ [] })).skips ∷ map (λ (th : PlainThread). th.number) (plain_run lock ten (record lock_start { skips = 2 ∷ [] })).threads ∷ [] ≡ (2 ∷ []) ∷ (1 ∷ 3 ∷ 4 ∷ []) ∷ []
  unfolding plain_step in_type same_ref put is_in
  skips_two = refl

  pub owner_away : (erasure lock (record (start m) { heap = put (put empty_heap (ref 3 1) (record nothing { mode = Open; owner = thread 5 })) (ref 3 2) (record nothing { mode = Open; owner = thread 2 }) })).skips ≡ 2 ∷ 5 ∷ []
  unfolding same_ref put
  owner_away = refl

  -- ghost and concrete code of the lock's program are apart
  pub lock_apart : every (λ f. every (stmt_apart lock f) f.body.items) lock.functions.items ≡ true
  lock_apart = refl

  pub lock_types : every (λ f. every (λ (v : VariableInfo). v.is_ghost || is_plain_type v.ty) f.variables.items) lock.functions.items && every (λ (i : FieldInfo). i.is_ghost || is_plain_type i.ty) lock.fields.items ≡ true
  lock_types = refl

  -- two concrete statements in a block, a ghost target with a concrete malloc, a concrete test of a ghost variable
  pub two_statements : action_apart lock (fn_Release m) (Atomic (vec m []) (vec m (Inside 40 (Assign (FieldOf (Variable 0) 1) (Compute (Number (pos 0)))) ∷ Inside 41 (Assign (FieldOf (Variable 0) 1) (Compute (Number (pos 0)))) ∷ []))) ≡ false
  two_statements = refl

  pub ghost_test : stmt_apart lock (fn_Release m) (If' 1 false (Variable 1) (vec m []) end_of-Stmt (vec m []) end_of-Stmt) ≡ false
  ghost_test = refl

  pub ghost_write : stmt_apart lock (fn_main m) (If' 1 true (Variable 2) (vec m (tt ∷ [])) (more_of-Stmt (Do 1 (Simply (Assign (FieldOf (Variable 1) 0) (Compute (Number (pos 0)))))) end_of-Stmt) (vec m []) end_of-Stmt) ≡ false
  ghost_write = refl
