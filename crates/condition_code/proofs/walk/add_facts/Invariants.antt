use Rattle.std.proofs.Common.{◌≡◌, ◌++◌, drop}
use Rattle.std.specs.Prelude.{map}
use Rattle.condition_code.specs.declared.walk.Step.TheVariants.{Fact}
use Rattle.condition_code.proofs.walk.add_facts.Given as goal

abbrev pub invariant-loop-formula : goal.invariant-loop-formula
invariant-loop-formula l = l.path.items ++ map Fact (drop l.formula-index l.formulas) ≡ l.fn.path.items ++ map Fact l.formulas
