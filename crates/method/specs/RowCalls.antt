-- A call with a value, and the check of the value's place when it comes back. Own.
use Rattle.std.specs.Prelude.{◌≡◌, pos, false, [], ◌∷◌, None, Some, refl}
use Rattle.object_types.specs.declared.values.Value.TheVariants.{Int}
use Rattle.int_ranges.specs.declared.ctype.CType.TheVariants.{Int as SignedInt, Unsigned}
use Rattle.method.specs.declared.program.DeclaredType.TheVariants.{Integer}
use Rattle.method.specs.declared.program.CheckKind.TheVariants.{Range}
use Rattle.method.specs.declared.program.Expr.TheVariants.{Variable}
use Rattle.method.specs.declared.program.Receiver.TheVariants.{NewVariable}
use Rattle.method.specs.declared.program.Stmt.TheVariants.{Call, Return}
use Rattle.method.specs.declared.program.Item.TheVariants.{Function}
use Rattle.method.specs.declared.program.FunctionInfo.{FunctionInfo}
use Rattle.method.specs.declared.program.Program.{Program}
use Rattle.object_types.specs.References.{same_ref}
use Rattle.object_types.specs.Sets.{is_in}
use Rattle.object_types.specs.Heap.{empty_heap, put, hand_over}
use Rattle.method.specs.Tables.{in_type}
use Rattle.method.specs.Invariants.{inv_holds}
use Rattle.method.specs.StableSet.{in_stable_set}
use Rattle.method.specs.Actions.{act}
use Rattle.method.specs.Machine.{step}
use Rattle.method.specs.Trace.{Memory, vec, Line, Fails, trace, event, state_of}

-- unsigned g(unsigned u) { return u; }       line 2
-- void main(unsigned u) {
--   int x = g(u);                            line 5
-- }
module _ (m : Memory) where
  -- the fault has the line of the call
  abbrev pub g : FunctionInfo
  g = record { name = m.text; result = Some (Integer Unsigned); parameters = 1; variables = vec m (record { name = m.text; ty = Integer Unsigned; is_ghost = false } ∷ []); requires_ = vec m []; ensures_ = vec m []; writes = vec m []; body = vec m (Return 2 (Some (Variable 0)) ∷ []); end = 2 }

  abbrev pub main_calls : FunctionInfo
  main_calls = record { name = m.text; result = None; parameters = 1; variables = vec m (record { name = m.text; ty = Integer Unsigned; is_ghost = false } ∷ record { name = m.text; ty = Integer SignedInt; is_ghost = false } ∷ []); requires_ = vec m []; ensures_ = vec m []; writes = vec m []; body = vec m (Call 5 (NewVariable 1) (Some SignedInt) 1 (vec m (Variable 0 ∷ [])) ∷ []); end = 6 }

  abbrev pub p_calls : Program
  p_calls = record { structs = vec m []; fields = vec m []; functions = vec m (main_calls ∷ g ∷ []); sites = vec m []; shapes = vec m []; items = vec m (Function 0 ∷ Function 1 ∷ []); main = 0 }

  pub calls_fault : trace p_calls (event 1 [] ∷ event 1 [] ∷ []) (state_of p_calls main_calls 0 empty_heap (Int (pos 4000000000) ∷ [])) ≡ Line 5 ∷ Fails Range 5 ∷ []
  unfolding step act in_type same_ref put is_in inv_holds hand_over in_stable_set
  calls_fault = refl

  pub calls_return : trace p_calls (event 1 [] ∷ event 1 [] ∷ event 1 [] ∷ []) (state_of p_calls main_calls 0 empty_heap (Int (pos 7) ∷ [])) ≡ Line 5 ∷ Line 2 ∷ Line 6 ∷ []
  unfolding step act in_type same_ref put is_in inv_holds hand_over in_stable_set
  calls_return = refl
