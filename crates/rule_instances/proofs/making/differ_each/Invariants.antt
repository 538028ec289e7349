use Rattle.axiom_instances.specs.Terms.{no, eq}
use Rattle.condition_formulas.proofs.Joins.{UpTo}
use Rattle.rule_instances.proofs.making.differ_each.Given as goal

abbrev pub invariant-loop-id : goal.invariant-loop-id
invariant-loop-id l = UpTo l.fn.graph l.graph l.x (λ f g. no (eq f g)) l.ids l.all.items l.id-index
