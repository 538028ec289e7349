-- Which accesses race, by computation: of two threads about to do this and that, and along the lock's run. What comes out was written down by hand. Own.
use Rattle.std.specs.Prelude.{◌≡◌, ℕ, pos, Bool, true, false, not, ◌&&◌, ◌||◌, List, [], ◌∷◌, ◌++◌, take, None, Some, refl}
use Rattle.object_types.specs.declared.values.Value.TheVariants.{Int, Ref as Refers}
use Rattle.int_ranges.specs.declared.ctype.CType.TheVariants.{Int as SignedInt}
use Rattle.object_types.specs.declared.records.Mode.TheVariants.{Closed}
use Rattle.object_types.specs.References.{ref, thread, same_ref}
use Rattle.object_types.specs.Sets.{is_in}
use Rattle.object_types.specs.Heap.{Heap, empty_heap, put, hand_over}
use Rattle.method.specs.declared.program.DeclaredType.TheVariants.{Integer, Pointer}
use Rattle.method.specs.declared.program.FieldInfo.{FieldInfo}
use Rattle.method.specs.declared.program.StructInfo.{StructInfo}
use Rattle.method.specs.declared.program.FunctionInfo.{FunctionInfo}
use Rattle.method.specs.declared.program.Program.{Program}
use Rattle.method.specs.declared.program.Item.TheVariants.{Struct, Function}
use Rattle.method.specs.declared.program.Expr.TheVariants.{Number, Variable, Field'}
use Rattle.method.specs.declared.program.Target.TheVariants.{Local, FieldOf}
use Rattle.method.specs.declared.program.RightSide.TheVariants.{Compute}
use Rattle.method.specs.declared.program.Simple.TheVariants.{Assign}
use Rattle.method.specs.declared.program.Inner.TheVariants.{Inside}
use Rattle.method.specs.declared.program.Action.TheVariants.{Simply, FreeObject, Atomic}
use Rattle.method.specs.declared.program.Stmt.{Stmt}
use Rattle.method.specs.declared.program.Stmt.TheVariants.{Do}
use Rattle.method.specs.Tables.{in_type}
use Rattle.method.specs.StableSet.{in_stable_set}
use Rattle.method.specs.Invariants.{inv_holds}
use Rattle.method.specs.Actions.{act, new_object}
use Rattle.method.specs.Machine.{Run, Activation, State, Event, step, left_by, run}
use Rattle.method.specs.Trace.{Memory, vec, box, event}
use Rattle.method.specs.RowLock as lock
use Rattle.race_law.specs.Accesses.{Access, event_accesses}
use Rattle.race_law.specs.Races.{events_race}

module _ (m : Memory) where
  -- struct A { int x; volatile int y; };
  abbrev pub field_of : Bool → FieldInfo
  field_of volatile = record { name = m.text; of = 3; ty = Integer SignedInt; is_volatile = volatile; is_ghost = false; is_approved = false }

  abbrev pub pair : StructInfo
  pair = record {
    name = m.text;
    line = 1;
    is_claimable = false;
    has_dynamic_owns = false;
    has_volatile_owns = false;
    first_field = 0;
    fields = 2;
    invariants = vec m [];
    has_approval = false;
    mine = vec m [];
  }

  abbrev pub main_function : FunctionInfo
  main_function = record {
    name = m.text;
    result = None;
    parameters = 0;
    variables = vec m (record { name = m.text; ty = Pointer 3; is_ghost = false } ∷ record { name = m.text; ty = Integer SignedInt; is_ghost = false } ∷ []);
    requires_ = vec m [];
    ensures_ = vec m [];
    writes = vec m [];
    body = vec m [];
    end = 2;
  }

  abbrev pub program : Program
  program = record {
    structs = vec m (pair ∷ []);
    fields = vec m (field_of false ∷ field_of true ∷ []);
    functions = vec m (main_function ∷ []);
    sites = vec m [];
    shapes = vec m [];
    items = vec m (Struct 0 ∷ Function 0 ∷ []);
    main = 0;
  }

  -- p->x = 1, p->y = 1, v = p->x, v = p->y, free(p), _(atomic p) { p->y = 1; }
  abbrev pub writes : ℕ → Stmt
  writes f = Do 2 (Simply (Assign (FieldOf (Variable 0) f) (Compute (Number (pos 1)))))

  abbrev pub reads : ℕ → Stmt
  reads f = Do 2 (Simply (Assign (Local 1) (Compute (Field' (box m) (Variable 0) f))))

  abbrev pub frees : Stmt
  frees = Do 2 (FreeObject (Variable 0))

  abbrev pub writes_in_a_block : Stmt
  writes_in_a_block =
      Do 2 (Atomic (vec m (record { object = Variable 0; is_claim = false } ∷ [])) (vec m (Inside 2 (Assign (FieldOf (Variable 0) 1) (Compute (Number (pos 1)))) ∷ [])))

  -- a heap with the object closed, and one without it
  abbrev pub shared : Heap
  shared = put empty_heap (ref 3 1) (record (new_object (thread 1) 0 (Int (pos 2) ∷ Int (pos 3) ∷ [])) { mode = Closed })

  abbrev pub about_to : ℕ → Heap → Stmt → Activation
  about_to n h s = record { context = record { function = 0; me = thread n; entry = h; writes = []; args = [] }; locals = Refers (ref 3 1) ∷ Int (pos 0) ∷ []; code = Run s ∷ [] }

  -- two threads with the same p: what thread 1 and thread 2 are about to do
  abbrev pub two : Heap → Stmt → Stmt → State
  two h s t = record { heap = h; threads = record { number = 1; frames = about_to 1 h s ∷ [] } ∷ record { number = 2; frames = about_to 2 h t ∷ [] } ∷ [] }

  abbrev pub race : Heap → Stmt → Stmt → Bool
  race h s t = events_race program (two h s t) (event 1 []) (event 2 [])

  abbrev pub races : List Bool
  races =
      race shared (writes 0) (writes 0) ∷
      race shared (writes 0) (reads 0) ∷
      race shared (reads 0) (writes 0) ∷
      race shared (reads 0) frees ∷
      race shared frees (writes 1) ∷
      race shared writes_in_a_block (reads 1) ∷
      race shared (writes 1) writes_in_a_block ∷
      []

  pub races_hold : races ≡ true ∷ true ∷ true ∷ true ∷ true ∷ true ∷ true ∷ []
  unfolding act in_type same_ref put is_in inv_holds hand_over in_stable_set
  races_hold = refl

  abbrev pub others : List Bool
  others =
      race shared (reads 0) (reads 0) ∷
      race shared (writes 0) (reads 1) ∷
      race shared writes_in_a_block writes_in_a_block ∷
      race shared writes_in_a_block (writes 0) ∷
      race empty_heap (writes 0) (writes 0) ∷
      []

  pub others_hold : others ≡ false ∷ false ∷ false ∷ false ∷ false ∷ []
  unfolding act in_type same_ref put is_in inv_holds hand_over in_stable_set
  others_hold = refl

  -- in a state of the lock's program, no two of its three threads race
  abbrev pub no_race : State → Bool
  no_race s =
      not (events_race (lock.program m) s (event 1 []) (event 2 []) || (events_race (lock.program m) s (event 1 []) (event 3 []) || events_race (lock.program m) s (event 2 []) (event 3 [])))

  abbrev pub no_race_along : List Event → State → Bool
  no_race_along [] s = no_race s
  no_race_along (e ∷ es) s = no_race s && no_race_along es (left_by s (step (lock.program m) s e))

  -- along the 45 events of the lock's run
  pub lock_holds : no_race_along (lock.events m) (lock.start m) ≡ true
  unfolding step act in_type same_ref put is_in inv_holds hand_over in_stable_set
  lock_holds = refl

  -- both workers are about to take the lock: one event of each more than the run's first twenty
  abbrev pub both_at_the_lock : State
  both_at_the_lock = run (lock.program m) (take 20 (lock.events m) ++ event 3 [] ∷ event 3 [] ∷ []) (lock.start m)

  abbrev pub takes_the_lock : List Access
  takes_the_lock =
      record { object = ref 4 1; field = Some 1; writes = true; atomic = true } ∷
      record { object = ref 4 1; field = Some 2; writes = false; atomic = false } ∷
      []

  pub second_takes : event_accesses (lock.program m) both_at_the_lock (event 2 []) ≡ takes_the_lock
  unfolding step act in_type same_ref put is_in inv_holds hand_over in_stable_set
  second_takes = refl

  pub third_takes : event_accesses (lock.program m) both_at_the_lock (event 3 []) ≡ takes_the_lock
  unfolding step act in_type same_ref put is_in inv_holds hand_over in_stable_set
  third_takes = refl
