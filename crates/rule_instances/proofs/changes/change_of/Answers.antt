use Rattle.std.proofs.Common.{refl}
use Rattle.condition_formulas.proofs.Walks.{opened}
use Rattle.rule_instances.proofs.Opening.{opens_object, closes_object, same_three}
use Rattle.rule_instances.proofs.changes.change_of.Goals as goal

pub returns-in-Open-clause-some : goal.returns-in-Open-clause-some
returns-in-Open-clause-some c = λ f is. opens_object c.in-Some.args _ (opened c.node-node.ensures.node is) c.in-Open.is (same_three c.numbers.ensures c.in-Some.ensures.some) refl refl refl refl

pub returns-in-Close-clause-some : goal.returns-in-Close-clause-some
returns-in-Close-clause-some c = λ f is. closes_object c.in-Some.args _ (opened c.node-node.ensures.node is) c.in-Close.is (same_three c.numbers.ensures c.in-Some.ensures.some) refl refl refl refl
