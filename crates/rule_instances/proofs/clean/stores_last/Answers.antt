use Rattle.axiom_instances.specs.Terms.{stores_cleanly}
use Rattle.std.specs.Prelude.{option_map}
use Rattle.rule_instances.specs.Columns.{seen}
use Rattle.rule_instances.proofs.Heaps.{no_last, the_last}
use Rattle.rule_instances.proofs.clean.stores_last.Goals as goal

pub returns-in_default : goal.returns-in_default
returns-in_default c = λ fs all. no_last (stores_cleanly (option_map seen c.args.column)) fs all c.in_default.ensures.cases

pub returns : goal.returns
returns c = λ fs all. the_last _ (stores_cleanly (option_map seen c.args.column)) fs all c.in-Some.ensures.cases.0 c.stores_cleanly.ensures
