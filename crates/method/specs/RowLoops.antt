-- Loops, run by computation: a `do` whose second invariant fails at its second turn, a `for`, and `\old` of a parameter that has changed. Own.
use Rattle.std.specs.Prelude.{◌≡◌, ℕ, pos, false, List, [], ◌∷◌, None, refl}
use Rattle.object_types.specs.declared.values.Value.{Value}
use Rattle.object_types.specs.declared.values.Value.TheVariants.{Int}
use Rattle.int_ranges.specs.declared.ctype.CType.TheVariants.{Int as SignedInt}
use Rattle.method.specs.declared.program.DeclaredType.TheVariants.{Integer}
use Rattle.method.specs.declared.program.CheckKind.TheVariants.{LoopInv, Assert}
use Rattle.method.specs.declared.program.Operator.TheVariants.{Plus}
use Rattle.method.specs.declared.program.Comparison.TheVariants.{Equal, Less, GreaterEqual}
use Rattle.method.specs.declared.program.Expr.TheVariants.{Number, Variable, Arithmetic', Compare'}
use Rattle.method.specs.declared.program.Spec.TheVariants.{Number as SNumber, Variable as SVariable, Compare' as SCompare, And' as SAnd, Old' as SOld}
use Rattle.method.specs.declared.program.Target.TheVariants.{Local}
use Rattle.method.specs.declared.program.RightSide.TheVariants.{Compute}
use Rattle.method.specs.declared.program.Simple.TheVariants.{Assign}
use Rattle.method.specs.declared.program.Action.TheVariants.{Simply, AssertSpec}
use Rattle.method.specs.declared.program.Stmt.{Stmt, end_of-Stmt, more_of-Stmt}
use Rattle.method.specs.declared.program.Stmt.TheVariants.{Do, While', DoWhile'}
use Rattle.method.specs.declared.program.Item.TheVariants.{Function}
use Rattle.method.specs.declared.program.FunctionInfo.{FunctionInfo}
use Rattle.method.specs.declared.program.Program.{Program}
use Rattle.object_types.specs.References.{same_ref}
use Rattle.object_types.specs.Sets.{is_in}
use Rattle.object_types.specs.Heap.{empty_heap, put, hand_over}
use Rattle.method.specs.Tables.{in_type}
use Rattle.method.specs.Invariants.{inv_holds}
use Rattle.method.specs.StableSet.{in_stable_set}
use Rattle.method.specs.Actions.{act}
use Rattle.method.specs.Machine.{State, Event, step, run}
use Rattle.method.specs.Trace.{Memory, vec, box, Line, Fails, trace, event, state_of, fault_place}

-- void main(int x) {
--   do _(invariant x >= 0) _(invariant x < 2)   line 2
--     x = x + 1;                                line 3
--   while (x < 5);                              line 4
-- }
module _ (m : Memory) where
  abbrev pub step_up : ℕ → Stmt
  step_up line = Do line (Simply (Assign (Local 0) (Compute (Arithmetic' Plus (box m) (Variable 0) (box m) (Number (pos 1)) SignedInt))))

  abbrev pub main_of : List Stmt → FunctionInfo
  main_of body = record {
    name = m.text;
    result = None;
    parameters = 1;
    variables = vec m (record { name = m.text; ty = Integer SignedInt; is_ghost = false } ∷ []);
    requires_ = vec m [];
    ensures_ = vec m [];
    writes = vec m [];
    body = vec m body;
    end = 5;
  }

  abbrev pub program_of : List Stmt → Program
  program_of body = record { structs = vec m []; fields = vec m []; functions = vec m (main_of body ∷ []); sites = vec m []; shapes = vec m []; items = vec m (Function 0 ∷ []); main = 0 }

  abbrev pub start_at : List Stmt → Value → State
  start_at body x = state_of (program_of body) (main_of body) 0 empty_heap (x ∷ [])

  abbrev pub do_loop : List Stmt
  do_loop =
      DoWhile' 2 (vec m (SCompare GreaterEqual (box m) (SVariable 0) (box m) (SNumber (pos 0)) ∷ SCompare Less (box m) (SVariable 0) (box m) (SNumber (pos 2)) ∷ []))
      (vec m (tt ∷ [])) (more_of-Stmt (step_up 3) end_of-Stmt) 4 (Compare' Less (box m) (Variable 0) (box m) (Number (pos 5)))
      ∷ []

  abbrev pub six : List Event
  six = event 1 [] ∷ event 1 [] ∷ event 1 [] ∷ event 1 [] ∷ event 1 [] ∷ event 1 [] ∷ []

  pub do_runs : trace (program_of do_loop) (event 1 [] ∷ six) (start_at do_loop (Int (pos 0))) ≡ Line 2 ∷ Line 3 ∷ Line 4 ∷ Line 2 ∷ Line 3 ∷ Line 4 ∷ Fails LoopInv 2 ∷ []
  unfolding step act in_type same_ref put is_in inv_holds hand_over in_stable_set
  do_runs = refl

  -- its second check
  pub do_place : fault_place (program_of do_loop) (main_of do_loop) (run (program_of do_loop) six (start_at do_loop (Int (pos 0)))) (event 1 []) ≡ 1
  unfolding step act in_type same_ref put is_in inv_holds hand_over in_stable_set
  do_place = refl

  -- void main(int x) {
  --   for (x = 0; x < 2; x++) ;              line 2
  --   _(assert \old(x) == 9 && x == 2)       line 3
  --   _(assert \old(x) == x)                 line 4
  -- }
  abbrev pub for_loop : List Stmt
  for_loop =
      Do 2 (Simply (Assign (Local 0) (Compute (Number (pos 0)))))
      ∷ While' 2 (vec m []) (Compare' Less (box m) (Variable 0) (box m) (Number (pos 2))) (vec m (tt ∷ [])) (more_of-Stmt (step_up 2) end_of-Stmt)
      ∷ Do 3 (AssertSpec (SAnd (box m) (SCompare Equal (box m) (SOld (box m) (SVariable 0)) (box m) (SNumber (pos 9))) (box m) (SCompare Equal (box m) (SVariable 0) (box m) (SNumber (pos 2)))))
      ∷ Do 4 (AssertSpec (SCompare Equal (box m) (SOld (box m) (SVariable 0)) (box m) (SVariable 0)))
      ∷ []

  pub for_runs : trace (program_of for_loop) (event 1 [] ∷ event 1 [] ∷ six) (start_at for_loop (Int (pos 9))) ≡ Line 2 ∷ Line 2 ∷ Line 2 ∷ Line 2 ∷ Line 2 ∷ Line 2 ∷ Line 3 ∷ Fails Assert 4 ∷ []
  unfolding step act in_type same_ref put is_in inv_holds hand_over in_stable_set
  for_runs = refl
