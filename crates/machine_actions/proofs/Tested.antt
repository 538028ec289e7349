-- One check of a test of annotations, from what the code makes of the test.
use Rattle.std.proofs.Common.{◌≡◌, ℕ, true, false, None, Err, sym, ap, ◌∙◌}
use Rattle.object_types.specs.declared.references.Ref.{Ref}
use Rattle.object_types.specs.declared.records.Stored.{Stored}
use Rattle.object_types.specs.declared.values.Value.{Value}
use Rattle.std.specs.Prelude.{List}
use Rattle.method.specs.declared.program.CheckKind.{CheckKind}
use Rattle.method.specs.declared.program.Program.{Program}
use Rattle.method.specs.declared.program.Spec.{Spec}
use Rattle.method.specs.Overflow.{or_else}
use Rattle.method.specs.Expressions.{Outcome, Fault, Spot, Tested, weighed, check, check_spec, spec_test, scene}
use Rattle.spec_eval.specs.declared.env.Env.{Env}
use Rattle.machine_values.specs.declared.spot.Context.{Context}
use Rattle.machine_values.specs.declared.stop.Stop.{Stop}
use Rattle.machine_values.specs.declared.stop.Stop.TheVariants.{Misfit as NotEnabled, Fault as Faulted, Wide, Exhausted, OutOfMemory}
use Rattle.machine_values.specs.Spots.{heap_at, context_at}
use Rattle.machine_values.specs.Answers.{Stops, Tests}
use Rattle.machine_values.specs.Testing.{code_scene}
use Rattle.machine_values.proofs.SameTests.{same_spec_test}
use Rattle.machine_actions.specs.Running.{IsRunEnv}

module _ {A : Type 0} (at_ : Spot) (t : Tested) (n : ℕ) (kind : CheckKind) (o : Outcome A) where
  pub test_passes : t.overflow ≡ None → true ≡ t.holds → check_spec at_ t n kind o ≡ o
  test_passes fits holds = λ i. weighed (fits i) (check at_ (sym holds i) n kind o)

  pub test_fails : t.overflow ≡ None → false ≡ t.holds → check_spec at_ t n kind o ≡ Fault n kind at_.line
  test_fails fits holds = λ i. weighed (fits i) (check at_ (sym holds i) n kind o)

  pub test_stops : (s : Stop) → Tests (Err s) t → Stops s (check_spec at_ t n kind o)
  test_stops NotEnabled h = absurd h
  test_stops (Faulted k line) h = absurd h
  test_stops (Wide w) h = ap (λ v. or_else v (check at_ t.holds n kind o).overflow) h
  test_stops Exhausted h = h
  test_stops OutOfMemory h = tt

-- an annotation tested in the code's environment is the one that the definitions test
pub same_run_test : (p : Program) (c : Context) (l : List Value) (env : Env) (e : Spec) (heap : List Stored) (x y : List Ref) → IsRunEnv c l env → spec_test p e (code_scene env c.entry heap) ≡ spec_test p e (scene (context_at x c) (heap_at y heap) l)
same_run_test p c l env e heap x y is = sym (same_spec_test p e (code_scene env c.entry heap) x y) ∙ ap (spec_test p e) (is x (heap_at y heap))
