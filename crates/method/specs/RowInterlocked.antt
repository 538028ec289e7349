-- Interlocked calls in atomic blocks, run by computation: an exchange, a decrement, and comparisons with a conversion. Own.
use Rattle.std.specs.Prelude.{◌≡◌, ℕ, pos, true, false, List, [], ◌∷◌, None, refl}
use Rattle.object_types.specs.declared.values.Value.{Value}
use Rattle.object_types.specs.declared.values.Value.TheVariants.{Int, Ref as Refers}
use Rattle.int_ranges.specs.declared.ctype.CType.TheVariants.{Int as SignedInt, Unsigned}
use Rattle.method.specs.declared.program.DeclaredType.TheVariants.{Integer, Pointer}
use Rattle.method.specs.declared.program.CheckKind.TheVariants.{Range}
use Rattle.method.specs.declared.program.Comparison.TheVariants.{Equal}
use Rattle.method.specs.declared.program.Expr.TheVariants.{Number, Variable, Negate', Convert'}
use Rattle.method.specs.declared.program.Spec.TheVariants.{Number as SNumber, Variable as SVariable, Compare' as SCompare}
use Rattle.method.specs.declared.program.Target.TheVariants.{Local}
use Rattle.method.specs.declared.program.Operation.{Operation}
use Rattle.method.specs.declared.program.Operation.TheVariants.{Exchange, Decrement}
use Rattle.method.specs.declared.program.InterlockedResult.{InterlockedResult}
use Rattle.method.specs.declared.program.InterlockedResult.TheVariants.{Plainly, Compared}
use Rattle.method.specs.declared.program.RightSide.TheVariants.{Interlocked}
use Rattle.method.specs.declared.program.Simple.TheVariants.{Assign}
use Rattle.method.specs.declared.program.Inner.TheVariants.{Inside}
use Rattle.method.specs.declared.program.Action.TheVariants.{AssertSpec, Atomic}
use Rattle.method.specs.declared.program.Stmt.{Stmt}
use Rattle.method.specs.declared.program.Stmt.TheVariants.{Do}
use Rattle.method.specs.declared.program.Item.TheVariants.{Struct, Function}
use Rattle.method.specs.declared.program.FunctionInfo.{FunctionInfo}
use Rattle.method.specs.declared.program.Program.{Program}
use Rattle.object_types.specs.declared.records.Mode.TheVariants.{Closed}
use Rattle.object_types.specs.References.{ref, thread, same_ref}
use Rattle.object_types.specs.Sets.{is_in}
use Rattle.object_types.specs.Heap.{Heap, empty_heap, put, write, hand_over, nothing}
use Rattle.method.specs.Tables.{in_type}
use Rattle.method.specs.Invariants.{inv_holds}
use Rattle.method.specs.StableSet.{in_stable_set}
use Rattle.method.specs.Actions.{act}
use Rattle.method.specs.Machine.{State, Event, step, run}
use Rattle.method.specs.Trace.{Memory, vec, box, Line, Fails, trace, event, state_of, seen, look}

-- struct C { volatile int n; volatile unsigned u; };
-- void main(struct C *c, int x) {
--   _(atomic c) { x = InterlockedExchange(&c->n, 5); }           line 3
--   _(assert x == 7)                                             line 4
--   _(atomic c) { x = InterlockedDecrement(&c->n); }             line 5
--   _(assert x == 4)                                             line 6
--   _(atomic c) { x = InterlockedExchange(&c->u, 1) == x; }      line 7
--   _(assert x == 0)                                             line 8
--   _(atomic c) { x = InterlockedExchange(&c->u, 2) != -1; }     line 9: -1 is no unsigned
-- }
module _ (m : Memory) where
  abbrev pub call : ℕ → ℕ → Operation → InterlockedResult → Stmt
  call line field operation result =
      Do line (Atomic (vec m (record { object = Variable 0; is_claim = false } ∷ [])) (vec m (Inside line (Assign (Local 1) (Interlocked (Variable 0) field operation result)) ∷ [])))

  abbrev pub says : ℕ → Value → Stmt
  says line (Int z) = Do line (AssertSpec (SCompare Equal (box m) (SVariable 1) (box m) (SNumber z)))
  says line (Refers r) = Do line (AssertSpec (SCompare Equal (box m) (SVariable 1) (box m) (SNumber (pos 0))))

  abbrev pub body : List Stmt
  body =
      call 3 0 (Exchange (Number (pos 5))) (Plainly None)
      ∷ says 4 (Int (pos 7))
      ∷ call 5 0 Decrement (Plainly None)
      ∷ says 6 (Int (pos 4))
      ∷ call 7 1 (Exchange (Number (pos 1))) (Compared None true (Convert' (box m) (Variable 1) Unsigned) None)
      ∷ says 8 (Int (pos 0))
      ∷ call 9 1 (Exchange (Number (pos 2))) (Compared None false (Convert' (box m) (Negate' (box m) (Number (pos 1)) SignedInt) Unsigned) None)
      ∷ []

  abbrev pub main : FunctionInfo
  main = record {
    name = m.text;
    result = None;
    parameters = 2;
    variables = vec m (record { name = m.text; ty = Pointer 3; is_ghost = false } ∷ record { name = m.text; ty = Integer SignedInt; is_ghost = false } ∷ []);
    requires_ = vec m [];
    ensures_ = vec m [];
    writes = vec m [];
    body = vec m body;
    end = 10;
  }

  abbrev pub program : Program
  program = record {
    structs = vec m (record { name = m.text; line = 1; is_claimable = false; has_dynamic_owns = false; has_volatile_owns = false; first_field = 0; fields = 2; invariants = vec m []; has_approval = false; mine = vec m [] } ∷ []);
    fields = vec m (record { name = m.text; of = 3; ty = Integer SignedInt; is_volatile = true; is_ghost = false; is_approved = false } ∷ record { name = m.text; of = 3; ty = Integer Unsigned; is_volatile = true; is_ghost = false; is_approved = false } ∷ []);
    functions = vec m (main ∷ []);
    sites = vec m [];
    shapes = vec m [];
    items = vec m (Struct 0 ∷ Function 0 ∷ []);
    main = 0;
  }

  abbrev pub heap : Heap
  heap = write (write (put empty_heap (ref 3 1) (record nothing { mode = Closed; owner = thread 1 })) (ref 3 1) 0 (Int (pos 7))) (ref 3 1) 1 (Int (pos 4000000000))

  abbrev pub begin_state : State
  begin_state = state_of program main 0 heap (Refers (ref 3 1) ∷ Int (pos 0) ∷ [])

  abbrev pub events : List Event
  events = event 1 [] ∷ event 1 [] ∷ event 1 [] ∷ event 1 [] ∷ event 1 [] ∷ event 1 [] ∷ event 1 [] ∷ []

  pub runs : trace program events begin_state ≡ Line 3 ∷ Line 4 ∷ Line 5 ∷ Line 6 ∷ Line 7 ∷ Line 8 ∷ Fails Range 9 ∷ []
  unfolding step act in_type same_ref put is_in inv_holds hand_over in_stable_set
  runs = refl

  pub leaves : look program (run program events begin_state).heap (ref 3 1) (0 ∷ 1 ∷ []) ≡ seen 3 1 Closed (ref 1 1) (pos 0) [] [] (Int (pos 4) ∷ Int (pos 1) ∷ []) []
  unfolding step act in_type same_ref put is_in inv_holds hand_over in_stable_set
  leaves = refl
