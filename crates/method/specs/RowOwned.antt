-- A wrap that takes the owned set from the invariants, and a thread that is started past one that owns something. Own.
use Rattle.std.specs.Prelude.{◌≡◌, pos, false, List, [], ◌∷◌, None, refl}
use Rattle.object_types.specs.declared.values.Value.TheVariants.{Int, Ref as Refers}
use Rattle.int_ranges.specs.declared.ctype.CType.TheVariants.{Int as SignedInt}
use Rattle.method.specs.declared.program.DeclaredType.TheVariants.{Integer, Pointer}
use Rattle.method.specs.declared.program.Expr.TheVariants.{Variable}
use Rattle.method.specs.declared.program.Spec.{Spec}
use Rattle.method.specs.declared.program.Spec.TheVariants.{Variable as SVariable, This as SThis, Field' as SField, Member' as SMember, Wrapped' as SWrapped}
use Rattle.method.specs.declared.program.Target.TheVariants.{FieldOf}
use Rattle.method.specs.declared.program.RightSide.TheVariants.{Compute}
use Rattle.method.specs.declared.program.Simple.TheVariants.{Assign}
use Rattle.method.specs.declared.program.Action.TheVariants.{Simply, WrapObject, UnwrapObject, SpawnThread}
use Rattle.method.specs.declared.program.Stmt.TheVariants.{Do}
use Rattle.method.specs.declared.program.Item.TheVariants.{Struct, Function}
use Rattle.method.specs.declared.program.FunctionInfo.{FunctionInfo}
use Rattle.method.specs.declared.program.Program.{Program}
use Rattle.object_types.specs.declared.records.Mode.TheVariants.{Open, Closed}
use Rattle.object_types.specs.References.{ref, thread, same_ref}
use Rattle.object_types.specs.Sets.{is_in}
use Rattle.object_types.specs.Heap.{Heap, empty_heap, put, hand_over, nothing}
use Rattle.method.specs.Tables.{in_type}
use Rattle.method.specs.Invariants.{inv_holds}
use Rattle.method.specs.StableSet.{in_stable_set}
use Rattle.method.specs.Actions.{act}
use Rattle.method.specs.Machine.{State, Event, step, run}
use Rattle.method.specs.Trace.{Memory, vec, box, Line, Waits, trace, event, state_of, Look, seen, look}

-- struct F { int a; };                                    line 1
-- struct G { struct F *p; _(invariant \mine(p)) };        line 2
-- void worker(struct F *f) _(requires \wrapped(f)) _(writes f) { }
-- void main(struct F *f, struct G *g) _(writes f, g) {
--   g->p = f;                                             line 3
--   _(wrap f)                                             line 4
--   _(wrap g)                                             line 5
--   _(unwrap g)                                           line 6
--   vcc_spawn(worker, f);       line 7: thread 3, since thread 2 owns the object 9.1
-- }
module _ (m : Memory) where
  abbrev pub mine_p : Spec
  mine_p = SMember (box m) (SField (box m) SThis 1) (box m) SThis

  abbrev pub main_mine : FunctionInfo
  main_mine = record {
    name = m.text;
    result = None;
    parameters = 2;
    variables = vec m (record { name = m.text; ty = Pointer 3; is_ghost = false } ∷ record { name = m.text; ty = Pointer 4; is_ghost = false } ∷ []);
    requires_ = vec m [];
    ensures_ = vec m [];
    writes = vec m (SVariable 0 ∷ SVariable 1 ∷ []);
    end = 9;
    body = vec m (Do 3 (Simply (Assign (FieldOf (Variable 1) 1) (Compute (Variable 0)))) ∷ Do 4 (WrapObject 3 0 (Variable 0)) ∷ Do 5 (WrapObject 4 1 (Variable 1)) ∷ Do 6 (UnwrapObject (Variable 1)) ∷ Do 7 (SpawnThread 1 (vec m (Variable 0 ∷ []))) ∷ []);
  }

  abbrev pub worker : FunctionInfo
  worker = record { name = m.text; result = None; parameters = 1; variables = vec m (record { name = m.text; ty = Pointer 3; is_ghost = false } ∷ []); requires_ = vec m (record { line = 1; spec = SWrapped (box m) (SVariable 0) } ∷ []); ensures_ = vec m []; writes = vec m (SVariable 0 ∷ []); body = vec m []; end = 2 }

  abbrev pub p_mine : Program
  p_mine = record {
    structs = vec m (record { name = m.text; line = 1; is_claimable = false; has_dynamic_owns = false; has_volatile_owns = false; first_field = 0; fields = 1; invariants = vec m []; has_approval = false; mine = vec m [] } ∷ record { name = m.text; line = 2; is_claimable = false; has_dynamic_owns = false; has_volatile_owns = false; first_field = 1; fields = 1; invariants = vec m (mine_p ∷ []); has_approval = false; mine = vec m (SField (box m) SThis 1 ∷ []) } ∷ []);
    fields = vec m (record { name = m.text; of = 3; ty = Integer SignedInt; is_volatile = false; is_ghost = false; is_approved = false } ∷ record { name = m.text; of = 4; ty = Pointer 3; is_volatile = false; is_ghost = false; is_approved = false } ∷ []);
    functions = vec m (main_mine ∷ worker ∷ []);
    sites = vec m [];
    shapes = vec m [];
    items = vec m (Struct 0 ∷ Struct 1 ∷ Function 0 ∷ Function 1 ∷ []);
    main = 0;
  }

  abbrev pub both_open : Heap
  both_open = put (put (put empty_heap (ref 9 1) (record nothing { mode = Closed; owner = thread 2 })) (ref 4 1) (record nothing { mode = Open; owner = thread 1 })) (ref 3 1) (record nothing { mode = Open; owner = thread 1 })

  abbrev pub start_mine : State
  start_mine = state_of p_mine main_mine 0 both_open (Refers (ref 3 1) ∷ Refers (ref 4 1) ∷ [])

  abbrev pub looks_mine : List Event → List Look
  looks_mine es = look p_mine (run p_mine es start_mine).heap (ref 3 1) (0 ∷ []) ∷ look p_mine (run p_mine es start_mine).heap (ref 4 1) (1 ∷ []) ∷ []

  pub wrapped_mine : looks_mine (event 1 [] ∷ event 1 [] ∷ event 1 [] ∷ []) ≡ seen 3 1 Closed (ref 4 1) (pos 0) [] [] (Int (pos 0) ∷ []) [] ∷ seen 4 1 Closed (ref 1 1) (pos 0) (ref 3 1 ∷ []) [] (Refers (ref 3 1) ∷ []) [] ∷ []
  unfolding step act in_type same_ref put is_in inv_holds hand_over in_stable_set
  wrapped_mine = refl

  pub spawned : looks_mine (event 1 [] ∷ event 1 [] ∷ event 1 [] ∷ event 1 [] ∷ event 1 [] ∷ []) ≡ seen 3 1 Closed (ref 1 3) (pos 0) [] [] (Int (pos 0) ∷ []) [] ∷ seen 4 1 Open (ref 1 1) (pos 0) (ref 3 1 ∷ []) [] (Refers (ref 3 1) ∷ []) [] ∷ []
  unfolding step act in_type same_ref put is_in inv_holds hand_over in_stable_set
  spawned = refl

  pub spawned_runs : trace p_mine (event 1 [] ∷ event 1 [] ∷ event 1 [] ∷ event 1 [] ∷ event 1 [] ∷ event 2 [] ∷ event 3 [] ∷ event 1 [] ∷ []) start_mine ≡ Line 3 ∷ Line 4 ∷ Line 5 ∷ Line 6 ∷ Line 7 ∷ Waits ∷ Line 2 ∷ Line 9 ∷ []
  unfolding step act in_type same_ref put is_in inv_holds hand_over in_stable_set
  spawned_runs = refl
