use Rattle.std.proofs.Common.{◌≡◌, drop}
use Rattle.rule_linear.specs.Bounds.{is_weighting}
use Rattle.rule_linear.proofs.bound.are_weights.Given as goal

abbrev pub invariant-loop-i : goal.invariant-loop-i
invariant-loop-i l = is_weighting l.weights.sorts.now l.terms (drop l.i l.weights.multipliers.now) (drop l.i l.weights.literals.now) ≡ is_weighting l.weights.sorts.now l.terms l.weights.multipliers.now l.weights.literals.now
