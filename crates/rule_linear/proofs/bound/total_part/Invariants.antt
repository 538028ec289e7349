use Rattle.std.proofs.Common.{◌≡◌, take}
use Rattle.std.specs.Int.{w128, int_wrap}
use Rattle.rule_linear.specs.Bounds.{total}
use Rattle.rule_linear.specs.Sides.{weighted}
use Rattle.rule_linear.proofs.bound.total_part.Given as goal

abbrev pub invariant-loop-i : goal.invariant-loop-i
invariant-loop-i l = l.sum ≡ int_wrap w128 (total l.weights.sorts.now l.terms (take l.i (weighted l.weights)) l.part)
