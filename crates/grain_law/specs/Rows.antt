-- Small programs in fine steps, run by computation; what they come to was written down by hand. Own.
use Rattle.std.specs.Prelude.{◌≡◌, ℕ, pos, false, List, [], ◌∷◌, length, map, None, refl}
use Rattle.object_types.specs.declared.values.Value.{Value}
use Rattle.object_types.specs.declared.values.Value.TheVariants.{Int, Ref as Refers}
use Rattle.int_ranges.specs.declared.ctype.CType.TheVariants.{Int as SignedInt}
use Rattle.method.specs.declared.program.DeclaredType.TheVariants.{Integer, Pointer}
use Rattle.method.specs.declared.program.VariableInfo.{VariableInfo}
use Rattle.method.specs.declared.program.CheckKind.TheVariants.{Read, LoopInv}
use Rattle.method.specs.declared.program.Comparison.TheVariants.{Equal, NotEqual, LessEqual}
use Rattle.method.specs.declared.program.Operator.TheVariants.{Plus}
use Rattle.method.specs.declared.program.Expr.TheVariants.{Number, Null, Variable, Field', Compare', Arithmetic'}
use Rattle.method.specs.declared.program.Spec.TheVariants.{Number as Number', Variable as Variable', Compare' as Compare''}
use Rattle.method.specs.declared.program.Target.TheVariants.{Local}
use Rattle.method.specs.declared.program.RightSide.TheVariants.{Compute, Malloc}
use Rattle.method.specs.declared.program.Simple.TheVariants.{Assign}
use Rattle.method.specs.declared.program.Action.{Action}
use Rattle.method.specs.declared.program.Action.TheVariants.{Simply, Define}
use Rattle.method.specs.declared.program.Stmt.{Stmt, end_of-Stmt, more_of-Stmt}
use Rattle.method.specs.declared.program.Stmt.TheVariants.{Do, If', While'}
use Rattle.method.specs.declared.program.Item.TheVariants.{Struct, Function}
use Rattle.method.specs.declared.program.FunctionInfo.{FunctionInfo}
use Rattle.method.specs.declared.program.StructInfo.{StructInfo}
use Rattle.method.specs.declared.program.FieldInfo.{FieldInfo}
use Rattle.method.specs.declared.program.Program.{Program}
use Rattle.object_types.specs.declared.records.Mode.TheVariants.{Open}
use Rattle.object_types.specs.References.{ref, thread, same_ref}
use Rattle.object_types.specs.Sets.{is_in}
use Rattle.object_types.specs.Heap.{empty_heap, put, hand_over}
use Rattle.method.specs.Tables.{in_type}
use Rattle.method.specs.StableSet.{in_stable_set}
use Rattle.method.specs.Invariants.{inv_holds}
use Rattle.method.specs.Machine.{Activation, Event, frames_of}
use Rattle.method.specs.Trace.{Memory, vec, box, Said, Line, Fails, Waits, said, event, state_of, seen, look}
use Rattle.grain_law.specs.FineSteps.{FineState, fine_start, fine_step, fine_run, next_state}

-- what each event says, and how many values its thread has read for its next item then
abbrev pub fine_trace : Program → List Event → FineState → List (Said × ℕ)
fine_trace p [] f = []
fine_trace p (e ∷ es) f =
    let step = fine_step p f e in
    (said step.answer, length ((next_state f step).reads e.thread)) ∷ fine_trace p es (next_state f step)

module _ (m : Memory) where
  abbrev pub variable_of : ℕ → VariableInfo
  variable_of ty = record { name = m.text; ty = Pointer ty; is_ghost = false }

  abbrev pub number_variable : VariableInfo
  number_variable = record { name = m.text; ty = Integer SignedInt; is_ghost = false }

  -- struct A { int x; int y; };
  abbrev pub pair : StructInfo
  pair = record {
    name = m.text;
    line = 1;
    is_claimable = false;
    has_dynamic_owns = false;
    has_volatile_owns = false;
    first_field = 0;
    fields = 2;
    invariants = vec m [];
    has_approval = false;
    mine = vec m [];
  }

  abbrev pub number_field : FieldInfo
  number_field = record { name = m.text; of = 3; ty = Integer SignedInt; is_volatile = false; is_ghost = false; is_approved = false }

  abbrev pub main_of : List VariableInfo → List Stmt → FunctionInfo
  main_of variables body = record {
    name = m.text;
    result = None;
    parameters = 0;
    variables = vec m variables;
    requires_ = vec m [];
    ensures_ = vec m [];
    writes = vec m [];
    body = vec m body;
    end = 6;
  }

  abbrev pub program_of : FunctionInfo → Program
  program_of main = record {
    structs = vec m (pair ∷ []);
    fields = vec m (number_field ∷ number_field ∷ []);
    functions = vec m (main ∷ []);
    sites = vec m [];
    shapes = vec m [];
    items = vec m (Struct 0 ∷ Function 0 ∷ []);
    main = 0;
  }

  abbrev pub start_of : FunctionInfo → FineState
  start_of main = fine_start (state_of (program_of main) main 0 empty_heap [])

  -- struct A *p = malloc(sizeof(struct A));      line 3
  abbrev pub allocates : Stmt
  allocates = Do 3 (Define 0 (Malloc 3))

  -- int s = 0;                                   line 4
  abbrev pub sets_zero : ℕ → Stmt
  sets_zero s = Do 4 (Define s (Compute (Number (pos 0))))

  -- s = p->x + q->y;                             line 6
  abbrev pub sums : (p q s : ℕ) → Stmt
  sums p q s = Do 6 (Simply (Assign (Local s) (Compute (Arithmetic' Plus (box m) (Field' (box m) (Variable p) 0) (box m) (Field' (box m) (Variable q) 1) SignedInt))))

  -- if (p != NULL) {                             line 5
  abbrev pub when_there : Stmt → Stmt
  when_there s = If' 5 false (Compare' NotEqual (box m) (Variable 0) (box m) Null) (vec m (tt ∷ [])) (more_of-Stmt s end_of-Stmt) (vec m []) end_of-Stmt

  -- the event of `malloc`: an object whose fields are 2 and 3
  abbrev pub two_three : Event
  two_three = event 1 (Int (pos 1) ∷ Int (pos 2) ∷ Int (pos 3) ∷ [])

  -- any other event, of an item that takes no choices
  abbrev pub goes : Event
  goes = event 1 []

  -- Two reads in one statement.
  -- void main() {
  --   struct A *p = malloc(sizeof(struct A));      line 3
  --   int s = 0;                                   line 4
  --   if (p != NULL) {                             line 5
  --     s = p->x + p->y; } }                       line 6
  abbrev pub main_both : FunctionInfo
  main_both = main_of (variable_of 3 ∷ number_variable ∷ []) (allocates ∷ sets_zero 1 ∷ when_there (sums 0 0 1) ∷ [])

  abbrev pub both : Program
  both = program_of main_both

  abbrev pub events_both : List Event
  events_both = two_three ∷ goes ∷ goes ∷ goes ∷ goes ∷ goes ∷ goes ∷ []

  -- the reads, then the statement, then the end of the body
  pub runs_both : fine_trace both events_both (start_of main_both) ≡ (Line 3, 0) ∷ (Line 4, 0) ∷ (Line 5, 0) ∷ (Line 6, 1) ∷ (Line 6, 2) ∷ (Line 6, 0) ∷ (Line 6, 0) ∷ []
  unfolding in_type same_ref put is_in inv_holds hand_over in_stable_set
  runs_both = refl

  pub left_both : look both (fine_run both events_both (start_of main_both)).state.heap (ref 3 1) (0 ∷ 1 ∷ []) ≡ seen 3 1 Open (thread 1) (pos 0) [] [] (Int (pos 2) ∷ Int (pos 3) ∷ []) []
  unfolding in_type same_ref put is_in inv_holds hand_over in_stable_set
  left_both = refl

  -- a read's event takes no choices
  pub waits_both : fine_trace both (two_three ∷ goes ∷ goes ∷ event 1 (Int (pos 0) ∷ []) ∷ goes ∷ []) (start_of main_both) ≡ (Line 3, 0) ∷ (Line 4, 0) ∷ (Line 5, 0) ∷ (Waits, 0) ∷ (Line 6, 1) ∷ []
  unfolding in_type same_ref put is_in inv_holds hand_over in_stable_set
  waits_both = refl

  abbrev pub variables_of : FineState → List (List Value)
  variables_of f = map (λ (a : Activation). a.locals) (frames_of 1 f.state.threads)

  -- before the sum, where 10 was read of the first field
  abbrev pub ten_read : FineState
  ten_read = record (fine_run both (two_three ∷ goes ∷ goes ∷ []) (start_of main_both)) { reads = λ t. Int (pos 10) ∷ [] }

  -- the value that was read counts, and not the one that the heap has by then: 10 + 3
  pub sum_ten : variables_of (fine_run both (goes ∷ goes ∷ []) ten_read) ≡ (Refers (ref 3 1) ∷ Int (pos 13) ∷ []) ∷ []
  unfolding in_type same_ref put is_in inv_holds hand_over in_stable_set
  sum_ten = refl

  -- Two reads in a comparison, which a program may make (Samples).
  -- void main() {
  --   struct A *p = malloc(sizeof(struct A));      line 3
  --   if (p != NULL) {                             line 5
  --     int s = p->x == p->y; } }                  line 6
  abbrev pub compares : Action
  compares = Define 1 (Compute (Compare' Equal (box m) (Field' (box m) (Variable 0) 0) (box m) (Field' (box m) (Variable 0) 1)))

  abbrev pub main_equality : FunctionInfo
  main_equality = main_of (variable_of 3 ∷ number_variable ∷ []) (allocates ∷ when_there (Do 6 compares) ∷ [])

  abbrev pub equality : Program
  equality = program_of main_equality

  pub runs_equality : fine_trace equality (two_three ∷ goes ∷ goes ∷ goes ∷ goes ∷ goes ∷ []) (start_of main_equality) ≡ (Line 3, 0) ∷ (Line 5, 0) ∷ (Line 6, 1) ∷ (Line 6, 2) ∷ (Line 6, 0) ∷ (Line 6, 0) ∷ []
  unfolding in_type same_ref put is_in inv_holds hand_over in_stable_set
  runs_equality = refl

  -- A fault at the second read: the same with `struct A *q = NULL;` in line 4 too, and q->y for p->y.
  abbrev pub main_null : FunctionInfo
  main_null = main_of (variable_of 3 ∷ variable_of 3 ∷ number_variable ∷ []) (allocates ∷ Do 4 (Define 1 (Compute Null)) ∷ sets_zero 2 ∷ when_there (sums 0 1 2) ∷ [])

  abbrev pub with_null : Program
  with_null = program_of main_null

  pub runs_null : fine_trace with_null (two_three ∷ goes ∷ goes ∷ goes ∷ goes ∷ goes ∷ []) (start_of main_null) ≡ (Line 3, 0) ∷ (Line 4, 0) ∷ (Line 4, 0) ∷ (Line 5, 0) ∷ (Line 6, 1) ∷ (Fails Read 6, 1) ∷ []
  unfolding in_type same_ref put is_in inv_holds hand_over in_stable_set
  runs_null = refl

  -- A loop's invariants.
  -- struct A *p = malloc(sizeof(struct A));              line 3
  -- int s = 0;                                           line 4
  -- while (p->x <= 5) _(invariant s == 1) { }            line 6
  abbrev pub loops : Stmt
  loops =
      While' 6 (vec m (Compare'' Equal (box m) (Variable' 1) (box m) (Number' (pos 1)) ∷ [])) (Compare' LessEqual (box m) (Field' (box m) (Variable 0) 0) (box m) (Number (pos 5))) (vec m []) end_of-Stmt

  abbrev pub main_loop : FunctionInfo
  main_loop = main_of (variable_of 3 ∷ number_variable ∷ []) (allocates ∷ sets_zero 1 ∷ loops ∷ [])

  abbrev pub loop : Program
  loop = program_of main_loop

  abbrev pub at_loop : FineState
  at_loop = fine_run loop (two_three ∷ goes ∷ []) (start_of main_loop)

  -- they are checked with the first event of the test
  pub first_loop : fine_trace loop (goes ∷ []) at_loop ≡ (Fails LoopInv 6, 0) ∷ []
  unfolding in_type same_ref put is_in inv_holds hand_over in_stable_set
  first_loop = refl

  -- and not with its last
  pub last_loop : fine_trace loop (goes ∷ []) (record at_loop { reads = λ t. Int (pos 9) ∷ [] }) ≡ (Line 6, 0) ∷ []
  unfolding in_type same_ref put is_in inv_holds hand_over in_stable_set
  last_loop = refl
