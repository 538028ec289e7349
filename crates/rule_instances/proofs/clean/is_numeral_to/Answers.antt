use Rattle.std.proofs.Common.{pos}
use Rattle.condition_formulas.proofs.Walks.{opened}
use Rattle.rule_instances.proofs.Heaps.{numeral, no_numeral}
use Rattle.rule_instances.proofs.clean.is_numeral_to.Goals as goal

pub returns-in-Int : goal.returns-in-Int
returns-in-Int c = λ f is. numeral (pos c.args.greatest) (opened c.node-node.ensures.node is) c.in-Int.is c.is_up_to.ensures

pub returns-in_default : goal.returns-in_default
returns-in_default c = λ f is. no_numeral (pos c.args.greatest) (opened c.node-node.ensures.node is) c.in_default.not-Int
