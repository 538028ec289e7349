use Rattle.std.proofs.Common.{◌↔◌, ◌≤◌, drop, length}
use Rattle.rule_equality.specs.Rows.{IsCongruent}
use Rattle.rule_equality.proofs.congruence.is_congruent.Given as goal

abbrev pub invariant-loop-i : goal.invariant-loop-i
invariant-loop-i l = record {
  within : l.at ≤ length l.clause;
  row : IsCongruent l.sorts l.terms l.of.left l.of.right (drop l.i l.left) (drop l.i l.right) (drop l.at l.clause) ↔ IsCongruent l.sorts l.terms l.of.left l.of.right l.left l.right l.clause;
}
