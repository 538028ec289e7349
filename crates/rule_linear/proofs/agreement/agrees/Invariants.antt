use Rattle.std.proofs.Common.{◌↔◌, drop}
use Rattle.rule_linear.specs.Sides.{weighted}
use Rattle.rule_linear.specs.Tests.{Agree, all_units}
use Rattle.rule_linear.proofs.agreement.agrees.Given as goal

abbrev pub invariant-loop-i : goal.invariant-loop-i
invariant-loop-i l =
    Agree l.weights l.terms l.goal (all_units l.weights.sorts.now l.terms (drop l.i (weighted l.weights)))
    ↔ Agree l.weights l.terms l.goal (all_units l.weights.sorts.now l.terms (weighted l.weights))
