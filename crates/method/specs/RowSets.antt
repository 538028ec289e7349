-- An owned set that grows by several members, quantifiers over it, and a wrap that keeps it, run by computation. Own.
use Rattle.std.specs.Prelude.{◌≡◌, pos, true, false, List, [], ◌∷◌, None, refl}
use Rattle.object_types.specs.declared.values.Value.TheVariants.{Ref as Refers}
use Rattle.int_ranges.specs.declared.ctype.CType.TheVariants.{Int as SignedInt}
use Rattle.method.specs.declared.program.DeclaredType.TheVariants.{Integer, Pointer}
use Rattle.method.specs.declared.program.CheckKind.TheVariants.{Assert}
use Rattle.method.specs.declared.program.Comparison.TheVariants.{Equal}
use Rattle.method.specs.declared.program.Expr.TheVariants.{Variable}
use Rattle.method.specs.declared.program.Spec.{end_of-Spec, more_of-Spec}
use Rattle.method.specs.declared.program.Spec.TheVariants.{Variable as SVariable, Bound as SBound, Closed' as SClosed, Compare' as SCompare, ForAll' as SForAll, Exists' as SExists}
use Rattle.method.specs.declared.program.OwnsChange.TheVariants.{Added}
use Rattle.method.specs.declared.program.Simple.TheVariants.{ChangeOwned}
use Rattle.method.specs.declared.program.Action.TheVariants.{Simply, AssertSpec, WrapObject}
use Rattle.method.specs.declared.program.Stmt.{Stmt}
use Rattle.method.specs.declared.program.Stmt.TheVariants.{Do}
use Rattle.method.specs.declared.program.Item.TheVariants.{Struct, Function}
use Rattle.method.specs.declared.program.FunctionInfo.{FunctionInfo}
use Rattle.method.specs.declared.program.Program.{Program}
use Rattle.object_types.specs.declared.records.Mode.TheVariants.{Open, Closed}
use Rattle.object_types.specs.References.{ref, thread, same_ref}
use Rattle.object_types.specs.Sets.{is_in}
use Rattle.object_types.specs.Heap.{Heap, empty_heap, put, hand_over, nothing}
use Rattle.method.specs.Tables.{in_type}
use Rattle.method.specs.Invariants.{inv_holds}
use Rattle.method.specs.StableSet.{in_stable_set}
use Rattle.method.specs.Actions.{act}
use Rattle.method.specs.Machine.{State, Event, step, run}
use Rattle.method.specs.Trace.{Memory, vec, box, Line, Fails, trace, event, state_of, Look, seen, look}

-- struct _(dynamic_owns) D { int v; };
-- struct Q { int v; };
-- void main(struct D *d, struct Q *a, struct Q *b) _(writes d, a, b) {
--   d->\owns += {a, b};                                                     line 4
--   _(assert \forall struct Q *q; q \in d->\owns ==> q->\closed)            line 5
--   _(assert \exists struct Q *q; q \in d->\owns && q->\closed && q == b)   line 6
--   _(wrap d)                                                               line 7
--   _(assert \forall struct Q *q; q \in d->\owns ==> q == a)                line 8
-- }
module _ (m : Memory) where
  abbrev pub body : List Stmt
  body =
      Do 4 (Simply (ChangeOwned Added (Variable 0) (vec m (Variable 1 ∷ Variable 2 ∷ []))))
      ∷ Do 5 (AssertSpec (SForAll 0 (Pointer 4) (box m) (SVariable 0) (box m) (SClosed (box m) (SBound 0))))
      ∷ Do 6 (AssertSpec (SExists 1 (Pointer 4) (box m) (SVariable 0) (vec m (tt ∷ tt ∷ [])) (more_of-Spec (SClosed (box m) (SBound 0)) (more_of-Spec (SCompare Equal (box m) (SBound 0) (box m) (SVariable 2)) end_of-Spec))))
      ∷ Do 7 (WrapObject 3 2 (Variable 0))
      ∷ Do 8 (AssertSpec (SForAll 3 (Pointer 4) (box m) (SVariable 0) (box m) (SCompare Equal (box m) (SBound 0) (box m) (SVariable 1))))
      ∷ []

  abbrev pub main : FunctionInfo
  main = record {
    name = m.text;
    result = None;
    parameters = 3;
    variables = vec m (record { name = m.text; ty = Pointer 3; is_ghost = false } ∷ record { name = m.text; ty = Pointer 4; is_ghost = false } ∷ record { name = m.text; ty = Pointer 4; is_ghost = false } ∷ []);
    requires_ = vec m [];
    ensures_ = vec m [];
    writes = vec m (SVariable 0 ∷ SVariable 1 ∷ SVariable 2 ∷ []);
    body = vec m body;
    end = 9;
  }

  abbrev pub program : Program
  program = record {
    structs = vec m (record { name = m.text; line = 1; is_claimable = false; has_dynamic_owns = true; has_volatile_owns = false; first_field = 0; fields = 1; invariants = vec m []; has_approval = false; mine = vec m [] } ∷ record { name = m.text; line = 2; is_claimable = false; has_dynamic_owns = false; has_volatile_owns = false; first_field = 1; fields = 1; invariants = vec m []; has_approval = false; mine = vec m [] } ∷ []);
    fields = vec m (record { name = m.text; of = 3; ty = Integer SignedInt; is_volatile = false; is_ghost = false; is_approved = false } ∷ record { name = m.text; of = 4; ty = Integer SignedInt; is_volatile = false; is_ghost = false; is_approved = false } ∷ []);
    functions = vec m (main ∷ []);
    sites = vec m [];
    shapes = vec m [];
    items = vec m (Struct 0 ∷ Struct 1 ∷ Function 0 ∷ []);
    main = 0;
  }

  abbrev pub heap : Heap
  heap = put (put (put empty_heap (ref 4 2) (record nothing { mode = Closed; owner = thread 1 })) (ref 4 1) (record nothing { mode = Closed; owner = thread 1 })) (ref 3 1) (record nothing { mode = Open; owner = thread 1 })

  abbrev pub begin_state : State
  begin_state = state_of program main 0 heap (Refers (ref 3 1) ∷ Refers (ref 4 1) ∷ Refers (ref 4 2) ∷ [])

  abbrev pub events : List Event
  events = event 1 [] ∷ event 1 [] ∷ event 1 [] ∷ event 1 [] ∷ event 1 [] ∷ []

  pub runs : trace program events begin_state ≡ Line 4 ∷ Line 5 ∷ Line 6 ∷ Line 7 ∷ Fails Assert 8 ∷ []
  unfolding step act in_type same_ref put is_in inv_holds hand_over in_stable_set
  runs = refl

  abbrev pub looks : List Look
  looks = look program (run program events begin_state).heap (ref 3 1) [] ∷ look program (run program events begin_state).heap (ref 4 2) [] ∷ []

  pub leaves : looks ≡ seen 3 1 Closed (ref 1 1) (pos 0) (ref 4 1 ∷ ref 4 2 ∷ []) [] [] [] ∷ seen 4 2 Closed (ref 3 1) (pos 0) [] [] [] [] ∷ []
  unfolding step act in_type same_ref put is_in inv_holds hand_over in_stable_set
  leaves = refl
