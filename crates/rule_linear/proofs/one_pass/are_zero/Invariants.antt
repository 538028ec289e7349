use Rattle.std.proofs.Common.{◌≡◌, drop}
use Rattle.rule_linear.specs.Sides.{weighted}
use Rattle.rule_linear.specs.Tests.{all_units}
use Rattle.rule_linear.specs.Coefficients.{every_unit, are_nothing}
use Rattle.rule_linear.proofs.one_pass.are_zero.Given as goal

abbrev pub invariant-loop-i : goal.invariant-loop-i
invariant-loop-i l = are_nothing l.room (all_units l.weights.sorts.now l.terms (drop l.i (weighted l.weights))) ≡ are_nothing l.room (every_unit l.weights l.terms)
