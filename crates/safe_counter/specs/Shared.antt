-- A program in which two threads write one object at the same time: one owns it, the other holds a claim on it. Own.
--
-- _(claimable) struct Ctr { volatile int n; _(invariant \old(n) <= n) };           line 1
-- void worker(struct Ctr *p, int v _(ghost \claim c))                              line 2
--   _(requires \wrapped(c) && \claims_object(c, p) && \claims(c, p->n >= v))       line 3
--   _(writes c)
-- { _(assert p->n >= v)                                                            line 4
--   _(atomic c, p) { p->n = 2147483647; } }                                        line 5
-- void main() {                                                                    line 6
--   int v = 0;                                                                     line 7
--   _(ghost \claim c;)                                                             line 8
--   struct Ctr *p = malloc(sizeof(struct Ctr));                                    line 9
--   if (p != NULL) {                                                               line 10
--     _(wrap p)                                                                    line 11
--     _(atomic p) { v = p->n;                                                      line 12
--       _(ghost c = \make_claim({p}, p->n >= v);) }                                line 13
--     vcc_spawn(worker, p, v, c);                                                  line 14
--     _(atomic p) { p->n = 2147483647; }                                           line 15
--   } }                                                                            line 16
use Rattle.std.specs.Prelude.{◌≡◌, ℕ, Bool, pos, true, false, List, [], ◌∷◌, None, refl}
use Rattle.object_types.specs.declared.values.Value.TheVariants.{Int, Ref as Refers}
use Rattle.int_ranges.specs.declared.ctype.CType.TheVariants.{Int as SignedInt}
use Rattle.method.specs.declared.program.DeclaredType.{DeclaredType}
use Rattle.method.specs.declared.program.DeclaredType.TheVariants.{Integer, Pointer, Claim}
use Rattle.method.specs.declared.program.Sort.TheVariants.{IntSort, RefSort}
use Rattle.method.specs.declared.program.CheckKind.{CheckKind}
use Rattle.method.specs.declared.program.CheckKind.TheVariants.{Read, Write, Writes, Wrap, Invariant, AtomicClosed, MakeClaim, ClaimStable, Assert, Spawn, Reflexive, Stable}
use Rattle.method.specs.declared.program.Comparison.TheVariants.{NotEqual, LessEqual, GreaterEqual}
use Rattle.method.specs.declared.program.Hole.TheVariants.{OfVariable}
use Rattle.method.specs.declared.program.Expr.TheVariants.{Number, Null, Variable, Field', Compare'}
use Rattle.method.specs.declared.program.Spec.{Spec, end_of-Spec, more_of-Spec}
use Rattle.method.specs.declared.program.Spec.TheVariants.{Variable as SVariable, This as SThis, Field' as SField, Compare' as SCompare, And' as SAnd, Old' as SOld, Wrapped' as SWrapped, ClaimsObject' as SClaimsObject, Claims' as SClaims, Has as SHas}
use Rattle.method.specs.declared.program.Target.TheVariants.{Local, FieldOf}
use Rattle.method.specs.declared.program.RightSide.TheVariants.{Compute, Malloc, NewClaim}
use Rattle.method.specs.declared.program.Simple.{Simple}
use Rattle.method.specs.declared.program.Simple.TheVariants.{Assign}
use Rattle.method.specs.declared.program.Inner.TheVariants.{Inside}
use Rattle.method.specs.declared.program.Action.{Action}
use Rattle.method.specs.declared.program.Action.TheVariants.{Declare, Define, WrapObject, AssertSpec, SpawnThread, Atomic}
use Rattle.method.specs.declared.program.Stmt.{Stmt, end_of-Stmt, more_of-Stmt}
use Rattle.method.specs.declared.program.Stmt.TheVariants.{Do, If'}
use Rattle.method.specs.declared.program.Claimed.TheVariants.{ClaimedVariable}
use Rattle.method.specs.declared.program.Conjunct.{Conjunct}
use Rattle.method.specs.declared.program.ClaimSite.{ClaimSite}
use Rattle.method.specs.declared.program.Shape.{Shape}
use Rattle.method.specs.declared.program.Item.TheVariants.{Struct, Function}
use Rattle.method.specs.declared.program.StructInfo.{StructInfo}
use Rattle.method.specs.declared.program.FieldInfo.{FieldInfo}
use Rattle.method.specs.declared.program.VariableInfo.{VariableInfo}
use Rattle.method.specs.declared.program.FunctionInfo.{FunctionInfo}
use Rattle.method.specs.declared.program.Program.{Program}
use Rattle.object_types.specs.References.{ref, same_ref}
use Rattle.object_types.specs.Sets.{is_in}
use Rattle.object_types.specs.Heap.{empty_heap, put, hand_over}
use Rattle.method.specs.Tables.{in_type}
use Rattle.method.specs.Invariants.{inv_holds}
use Rattle.method.specs.StableSet.{in_stable_set}
use Rattle.method.specs.Actions.{act}
use Rattle.method.specs.Labels.{ProgramLabel, program_labels}
use Rattle.method.specs.Machine.{State, Event, step}
use Rattle.method.specs.Trace.{Memory, vec, box, Line, trace, event, state_of, label}
use Rattle.safe_counter.specs.SafeByLabels.{IsSafeByLabels}

module _ (m : Memory) where
  -- The invariant \old(n) <= n.
  abbrev pub grows : Spec
  grows = SCompare LessEqual (box m) (SOld (box m) (SField (box m) SThis 0)) (box m) (SField (box m) SThis 0)

  -- struct Ctr, of type 3.
  abbrev pub counter : StructInfo
  counter = record {
    name = m.text;
    line = 1;
    is_claimable = true;
    has_dynamic_owns = false;
    has_volatile_owns = false;
    first_field = 0;
    fields = 1;
    invariants = vec m (grows ∷ []);
    has_approval = false;
    mine = vec m [];
  }

  -- Its field n.
  abbrev pub number : FieldInfo
  number = record { name = m.text; of = 3; ty = Integer SignedInt; is_volatile = true; is_ghost = false; is_approved = false }

  -- p->n >= v, where p is variable 0 and v variable 1.
  abbrev pub at_least : Spec
  at_least = SCompare GreaterEqual (box m) (SField (box m) (SVariable 0) 0) (box m) (SVariable 1)

  -- The shape of what is claimed.
  abbrev pub shape : Shape
  shape = record { holes = vec m (RefSort ∷ IntSort ∷ []); conjunct = at_least }

  -- A variable of this type, which is ghost or isn't.
  abbrev pub variable : DeclaredType → Bool → VariableInfo
  variable ty is_ghost = record { name = m.text; ty = ty; is_ghost = is_ghost }

  -- p->n = 2147483647, where p is variable i.
  abbrev pub set_greatest : ℕ → Simple
  set_greatest i = Assign (FieldOf (Variable i) 0) (Compute (Number (pos 2147483647)))

  -- The conjunct p->n >= v in the worker, whose p, v and c are the variables 0, 1 and 2.
  abbrev pub worker_conjunct : Conjunct
  worker_conjunct = record { shape = 0; holes = vec m (OfVariable 0 ∷ OfVariable 1 ∷ []) }

  -- The requires clause of line 3.
  abbrev pub holds_claim : Spec
  holds_claim = SAnd (box m) (SAnd (box m) (SWrapped (box m) (SVariable 2)) (box m) (SClaimsObject (box m) (SVariable 2) (box m) (SVariable 0))) (box m)
      (SClaims (box m) (SVariable 2) (vec m (tt ∷ [])) (more_of-Spec (SHas worker_conjunct) end_of-Spec))

  -- The block of line 5.
  abbrev pub work : Action
  work = Atomic (vec m (record { object = Variable 2; is_claim = true } ∷ record { object = Variable 0; is_claim = false } ∷ [])) (vec m (Inside 5 (set_greatest 0) ∷ []))

  -- The function worker.
  abbrev pub worker : FunctionInfo
  worker = record {
    name = m.text;
    result = None;
    parameters = 3;
    variables = vec m (variable (Pointer 3) false ∷ variable (Integer SignedInt) false ∷ variable Claim true ∷ []);
    requires_ = vec m (record { line = 3; spec = holds_claim } ∷ []);
    ensures_ = vec m [];
    writes = vec m (SVariable 2 ∷ []);
    body = vec m (Do 4 (AssertSpec at_least) ∷ Do 5 work ∷ []);
    end = 5;
  }

  -- The claim of line 13, in main, whose v, c and p are the variables 0, 1 and 2.
  abbrev pub site : ClaimSite
  site = record {
    function = 1;
    line = 13;
    variables = vec m (0 ∷ 2 ∷ []);
    claimed = vec m (ClaimedVariable 2 ∷ []);
    conjuncts = vec m (record { shape = 0; holes = vec m (OfVariable 2 ∷ OfVariable 0 ∷ []) } ∷ []);
  }

  -- The wrap of line 11.
  abbrev pub wraps : Action
  wraps = WrapObject 3 0 (Variable 2)

  -- v = p->n.
  abbrev pub reads_number : Simple
  reads_number = Assign (Local 0) (Compute (Field' (box m) (Variable 2) 0))

  -- c = \make_claim({p}, p->n >= v).
  abbrev pub makes_claim : Simple
  makes_claim = Assign (Local 1) (NewClaim 0)

  -- The block of lines 12 and 13.
  abbrev pub claims : Action
  claims = Atomic (vec m (record { object = Variable 2; is_claim = false } ∷ [])) (vec m (Inside 12 reads_number ∷ Inside 13 makes_claim ∷ []))

  -- vcc_spawn(worker, p, v, c).
  abbrev pub spawns : Action
  spawns = SpawnThread 0 (vec m (Variable 2 ∷ Variable 0 ∷ Variable 1 ∷ []))

  -- The block of line 15.
  abbrev pub raises : Action
  raises = Atomic (vec m (record { object = Variable 2; is_claim = false } ∷ [])) (vec m (Inside 15 (set_greatest 2) ∷ []))

  -- The test of line 10, with what it guards.
  abbrev pub if_allocated : Stmt
  if_allocated = If' 10 false (Compare' NotEqual (box m) (Variable 2) (box m) Null) (vec m (tt ∷ tt ∷ tt ∷ tt ∷ []))
      (more_of-Stmt (Do 11 wraps) (more_of-Stmt (Do 12 claims) (more_of-Stmt (Do 14 spawns) (more_of-Stmt (Do 15 raises) end_of-Stmt)))) (vec m []) end_of-Stmt

  -- The function main.
  abbrev pub main : FunctionInfo
  main = record {
    name = m.text;
    result = None;
    parameters = 0;
    variables = vec m (variable (Integer SignedInt) false ∷ variable Claim true ∷ variable (Pointer 3) false ∷ []);
    requires_ = vec m [];
    ensures_ = vec m [];
    writes = vec m [];
    body = vec m (Do 7 (Define 0 (Compute (Number (pos 0)))) ∷ Do 8 (Declare 1) ∷ Do 9 (Define 2 (Malloc 3)) ∷ if_allocated ∷ []);
    end = 16;
  }

  -- The program.
  abbrev pub program : Program
  program = record {
    structs = vec m (counter ∷ []);
    fields = vec m (number ∷ []);
    functions = vec m (worker ∷ main ∷ []);
    sites = vec m (site ∷ []);
    shapes = vec m (shape ∷ []);
    items = vec m (Struct 0 ∷ Function 0 ∷ Function 1 ∷ []);
    main = 1;
  }

  -- The n-th label of the struct, of worker and of main.
  abbrev pub struct_label : ℕ → CheckKind → ℕ → ProgramLabel
  struct_label n kind line = record { item = Struct 0; ordinal = n; check = label kind line }

  abbrev pub worker_label : ℕ → CheckKind → ℕ → ProgramLabel
  worker_label n kind line = record { item = Function 0; ordinal = n; check = label kind line }

  abbrev pub main_label : ℕ → CheckKind → ℕ → ProgramLabel
  main_label n kind line = record { item = Function 1; ordinal = n; check = label kind line }

  -- The labels of the program, in their order.
  abbrev pub label_list : List ProgramLabel
  label_list =
      struct_label 1 Reflexive 1 ∷ struct_label 2 Stable 1
      ∷ worker_label 1 Assert 4
      ∷ worker_label 2 AtomicClosed 5 ∷ worker_label 3 AtomicClosed 5 ∷ worker_label 4 Write 5 ∷ worker_label 5 Writes 5 ∷ worker_label 6 Invariant 5
      ∷ main_label 1 Wrap 11 ∷ main_label 2 Writes 11 ∷ main_label 3 Wrap 11 ∷ main_label 4 Invariant 11
      ∷ main_label 5 AtomicClosed 12 ∷ main_label 6 Read 12 ∷ main_label 7 MakeClaim 13 ∷ main_label 8 ClaimStable 13
      ∷ main_label 9 Invariant 12 ∷ main_label 10 Invariant 12 ∷ main_label 11 Invariant 12
      ∷ main_label 12 Spawn 14 ∷ main_label 13 Spawn 14
      ∷ main_label 14 AtomicClosed 15 ∷ main_label 15 Write 15 ∷ main_label 16 Writes 15 ∷ main_label 17 Invariant 15 ∷ []

  -- They are what the walk over its text gives.
  pub all_labels : program_labels program ≡ label_list
  all_labels = refl

  -- A start.
  abbrev pub start : State
  start = state_of program main 1 empty_heap []

  -- A run of both threads: main writes the object between the worker's steps.
  abbrev pub events : List Event
  events = event 1 [] ∷ event 1 (Refers (ref 0 0) ∷ []) ∷ event 1 (Int (pos 1) ∷ Int (pos 5) ∷ []) ∷ event 1 [] ∷ event 1 [] ∷ event 1 [] ∷ event 1 [] ∷ event 2 [] ∷ event 1 []
      ∷ event 2 [] ∷ event 2 [] ∷ event 1 [] ∷ []

  -- The lines of its steps; none is a fault.
  pub runs : trace program events start ≡ Line 7 ∷ Line 8 ∷ Line 9 ∷ Line 10 ∷ Line 11 ∷ Line 12 ∷ Line 14 ∷ Line 4 ∷ Line 15 ∷ Line 5 ∷ Line 5 ∷ Line 16 ∷ []
  unfolding step act in_type same_ref put is_in inv_holds hand_over in_stable_set
  runs = refl

-- The program is safe by its labels, whatever memory its vectors lie in.
abbrev pub SharedIsSafe : Type 0
SharedIsSafe = (m : Memory) → IsSafeByLabels (program m) (start m)
