-- A claim that is stored in a field at once, one that is ended, and an object that is freed, run by computation. Own.
use Rattle.std.specs.Prelude.{◌≡◌, pos, true, false, List, [], ◌∷◌, None, refl}
use Rattle.object_types.specs.declared.values.Value.TheVariants.{Int, Ref as Refers}
use Rattle.int_ranges.specs.declared.ctype.CType.TheVariants.{Int as SignedInt}
use Rattle.method.specs.declared.program.DeclaredType.TheVariants.{Integer, Pointer, Claim}
use Rattle.method.specs.declared.program.CheckKind.TheVariants.{Invariant}
use Rattle.method.specs.declared.program.Comparison.TheVariants.{Equal, NotEqual}
use Rattle.method.specs.declared.program.Expr.TheVariants.{Number, Null, Variable, And', Compare'}
use Rattle.method.specs.declared.program.Spec.{Spec}
use Rattle.method.specs.declared.program.Spec.TheVariants.{Truth as STruth, Variable as SVariable, This as SThis, Field' as SField, ClaimCount' as SClaimCount, Old' as SOld, Or' as SOr, Compare' as SCompare}
use Rattle.method.specs.declared.program.Target.TheVariants.{FieldOf}
use Rattle.method.specs.declared.program.RightSide.TheVariants.{Compute, Malloc, NewClaim}
use Rattle.method.specs.declared.program.Simple.TheVariants.{Assign, EndClaim}
use Rattle.method.specs.declared.program.Action.TheVariants.{Simply, Define, WrapObject, UnwrapObject, FreeObject}
use Rattle.method.specs.declared.program.Claimed.TheVariants.{ClaimedVariable}
use Rattle.method.specs.declared.program.Stmt.{end_of-Stmt, more_of-Stmt}
use Rattle.method.specs.declared.program.Stmt.TheVariants.{Do, If', Unwrapping'}
use Rattle.method.specs.declared.program.Item.TheVariants.{Struct, Function}
use Rattle.method.specs.declared.program.FunctionInfo.{FunctionInfo}
use Rattle.method.specs.declared.program.Program.{Program}
use Rattle.object_types.specs.declared.records.Mode.TheVariants.{Closed, Freed}
use Rattle.object_types.specs.References.{ref, thread, same_ref}
use Rattle.object_types.specs.Sets.{is_in}
use Rattle.object_types.specs.Heap.{Heap, empty_heap, put, hand_over, nothing}
use Rattle.method.specs.Tables.{in_type}
use Rattle.method.specs.Invariants.{inv_holds}
use Rattle.method.specs.StableSet.{in_stable_set}
use Rattle.method.specs.Actions.{act}
use Rattle.method.specs.Machine.{Event, step, run}
use Rattle.method.specs.Trace.{Memory, vec, box, Line, Fails, trace, event, state_of, seen, look}

-- struct K { _(ghost \claim c) };                                                                                  line 1
-- struct _(claimable) D { struct K *k;
--   _(invariant \this->\claim_count == \old(\this->\claim_count) || k->c == \old(k->c)) };                       line 2
-- void main() {
--   struct K *k = malloc(sizeof(struct K));                                                                        line 5
--   struct D *d = malloc(sizeof(struct D));                                                                        line 6
--   if (k != NULL && d != NULL) {                                                                                  line 7
--     d->k = k;                                                                                                    line 8
--     _(wrap d)                                                                                                    line 9
--     _(ghost k->c = \make_claim({d}, \true);)       line 10: over the whole event, the store with it, k->c changes
-- } }
module _ (m : Memory) where
  abbrev pub kept_invariant : Spec
  kept_invariant = SOr (box m) (SCompare Equal (box m) (SClaimCount (box m) SThis) (box m) (SOld (box m) (SClaimCount (box m) SThis))) (box m) (SCompare Equal (box m) (SField (box m) (SField (box m) SThis 1) 0) (box m) (SOld (box m) (SField (box m) (SField (box m) SThis 1) 0)))

  abbrev pub main_kept : FunctionInfo
  main_kept = record {
    name = m.text;
    result = None;
    parameters = 0;
    variables = vec m (record { name = m.text; ty = Pointer 3; is_ghost = false } ∷ record { name = m.text; ty = Pointer 4; is_ghost = false } ∷ []);
    requires_ = vec m [];
    ensures_ = vec m [];
    writes = vec m [];
    end = 10;
    body = vec m (Do 5 (Define 0 (Malloc 3)) ∷ Do 6 (Define 1 (Malloc 4)) ∷ If' 7 false (And' (box m) (Compare' NotEqual (box m) (Variable 0) (box m) Null) (box m) (Compare' NotEqual (box m) (Variable 1) (box m) Null)) (vec m (tt ∷ tt ∷ tt ∷ [])) (more_of-Stmt (Do 8 (Simply (Assign (FieldOf (Variable 1) 1) (Compute (Variable 0))))) (more_of-Stmt (Do 9 (WrapObject 4 0 (Variable 1))) (more_of-Stmt (Do 10 (Simply (Assign (FieldOf (Variable 0) 0) (NewClaim 0)))) end_of-Stmt))) (vec m []) end_of-Stmt ∷ []);
  }

  abbrev pub p_kept : Program
  p_kept = record {
    structs = vec m (record { name = m.text; line = 1; is_claimable = false; has_dynamic_owns = false; has_volatile_owns = false; first_field = 0; fields = 1; invariants = vec m []; has_approval = false; mine = vec m [] } ∷ record { name = m.text; line = 2; is_claimable = true; has_dynamic_owns = false; has_volatile_owns = false; first_field = 1; fields = 1; invariants = vec m (kept_invariant ∷ []); has_approval = false; mine = vec m [] } ∷ []);
    fields = vec m (record { name = m.text; of = 3; ty = Claim; is_volatile = false; is_ghost = true; is_approved = false } ∷ record { name = m.text; of = 4; ty = Pointer 3; is_volatile = false; is_ghost = false; is_approved = false } ∷ []);
    functions = vec m (main_kept ∷ []);
    sites = vec m (record { function = 0; line = 10; variables = vec m (1 ∷ []); claimed = vec m (ClaimedVariable 1 ∷ []); conjuncts = vec m (record { shape = 0; holes = vec m [] } ∷ []) } ∷ []);
    shapes = vec m (record { holes = vec m []; conjunct = STruth true } ∷ []);
    items = vec m (Struct 0 ∷ Struct 1 ∷ Function 0 ∷ []);
    main = 0;
  }

  pub kept_runs : trace p_kept (event 1 (Int (pos 1) ∷ Refers (ref 0 0) ∷ []) ∷ event 1 (Int (pos 1) ∷ Refers (ref 0 0) ∷ []) ∷ event 1 [] ∷ event 1 [] ∷ event 1 [] ∷ event 1 [] ∷ []) (state_of p_kept main_kept 0 empty_heap []) ≡ Line 5 ∷ Line 6 ∷ Line 7 ∷ Line 8 ∷ Line 9 ∷ Fails Invariant 10 ∷ []
  unfolding step act in_type same_ref put is_in inv_holds hand_over in_stable_set
  kept_runs = refl

  -- struct _(claimable) S { int v; };
  -- void main(struct S *s) _(writes s) {
  --   _(ghost \claim c = \make_claim({s}, \true);)     line 3
  --   _(ghost \destroy_claim(c, {s});)                  line 4
  --   _(unwrapping s)                                    line 5
  --     s->v = 2;                                        line 6
  --   _(unwrap s)                                        line 7
  --   free(s);                                           line 8
  -- }
  abbrev pub main_end : FunctionInfo
  main_end = record {
    name = m.text;
    result = None;
    parameters = 1;
    variables = vec m (record { name = m.text; ty = Pointer 3; is_ghost = false } ∷ record { name = m.text; ty = Claim; is_ghost = true } ∷ []);
    requires_ = vec m [];
    ensures_ = vec m [];
    writes = vec m (SVariable 0 ∷ []);
    end = 9;
    body = vec m (Do 3 (Define 1 (NewClaim 0)) ∷ Do 4 (Simply (EndClaim 0 (Variable 1) (vec m (Variable 0 ∷ [])))) ∷ Unwrapping' 5 3 1 (Variable 0) (vec m (tt ∷ [])) (more_of-Stmt (Do 6 (Simply (Assign (FieldOf (Variable 0) 0) (Compute (Number (pos 2)))))) end_of-Stmt) ∷ Do 7 (UnwrapObject (Variable 0)) ∷ Do 8 (FreeObject (Variable 0)) ∷ []);
  }

  abbrev pub p_end : Program
  p_end = record {
    structs = vec m (record { name = m.text; line = 1; is_claimable = true; has_dynamic_owns = false; has_volatile_owns = false; first_field = 0; fields = 1; invariants = vec m []; has_approval = false; mine = vec m [] } ∷ []);
    fields = vec m (record { name = m.text; of = 3; ty = Integer SignedInt; is_volatile = false; is_ghost = false; is_approved = false } ∷ []);
    functions = vec m (main_end ∷ []);
    sites = vec m (record { function = 0; line = 3; variables = vec m (0 ∷ []); claimed = vec m (ClaimedVariable 0 ∷ []); conjuncts = vec m (record { shape = 0; holes = vec m [] } ∷ []) } ∷ []);
    shapes = vec m (record { holes = vec m []; conjunct = STruth true } ∷ []);
    items = vec m (Struct 0 ∷ Function 0 ∷ []);
    main = 0;
  }

  abbrev pub closed : Heap
  closed = put empty_heap (ref 3 1) (record nothing { mode = Closed; owner = thread 1 })

  abbrev pub events_end : List Event
  events_end = event 1 [] ∷ event 1 [] ∷ event 1 [] ∷ event 1 [] ∷ event 1 [] ∷ event 1 [] ∷ event 1 [] ∷ event 1 [] ∷ []

  pub end_runs : trace p_end events_end (state_of p_end main_end 0 closed (Refers (ref 3 1) ∷ [])) ≡ Line 3 ∷ Line 4 ∷ Line 5 ∷ Line 6 ∷ Line 5 ∷ Line 7 ∷ Line 8 ∷ Line 9 ∷ []
  unfolding step act in_type same_ref put is_in inv_holds hand_over in_stable_set
  end_runs = refl

  pub end_leaves : look p_end (run p_end events_end (state_of p_end main_end 0 closed (Refers (ref 3 1) ∷ []))).heap (ref 2 1) [] ∷ look p_end (run p_end events_end (state_of p_end main_end 0 closed (Refers (ref 3 1) ∷ []))).heap (ref 3 1) (0 ∷ []) ∷ [] ≡ seen 2 1 Freed (ref 0 0) (pos 0) [] (ref 3 1 ∷ []) [] (record { shape = 0; values = [] } ∷ []) ∷ seen 3 1 Freed (ref 0 0) (pos 0) [] [] (Int (pos 2) ∷ []) [] ∷ []
  unfolding step act in_type same_ref put is_in inv_holds hand_over in_stable_set
  end_leaves = refl
