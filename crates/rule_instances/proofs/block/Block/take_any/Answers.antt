use Rattle.rule_instances.proofs.Reading.{none_any, unnamed_any, named_any}
use Rattle.rule_instances.proofs.block.Block.take_any.Goals as goal

pub returns-in_default-clause-none : goal.returns-in_default-clause-none
returns-in_default-clause-none c = λ ts l tree is. none_any tree c.in_default.ensures.none

pub returns-in_default-name-clause-none : goal.returns-in_default-name-clause-none
returns-in_default-name-clause-none c = λ ts l tree is. unnamed_any is c.in-Some.ensures.some c.in_default-name.ensures

pub returns-clause-some : goal.returns-clause-some
returns-clause-some c = λ ts l tree is. named_any is c.in-Some.ensures.some c.in-Some-name.ensures
