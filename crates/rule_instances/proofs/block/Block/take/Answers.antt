use Rattle.rule_instances.proofs.Reading.{none_term, unnamed_term, wrong_sort, right_sort}
use Rattle.rule_instances.proofs.block.Block.take.Goals as goal

pub returns-in_default-clause-none : goal.returns-in_default-clause-none
returns-in_default-clause-none c = λ ts l tree is. none_term l tree c.args.sort c.in_default.ensures.none

pub returns-in_default-name-clause-none : goal.returns-in_default-name-clause-none
returns-in_default-name-clause-none c = λ ts l tree is. unnamed_term c.args.sort is c.in-Some.ensures.some c.in_default-name.ensures

pub returns-then-not-has_sort-clause-none : goal.returns-then-not-has_sort-clause-none
returns-then-not-has_sort-clause-none c = λ ts l tree is. wrong_sort c.args.sort is c.in-Some.ensures.some c.in-Some-name.ensures c.has_sort.ensures c.if-not-has_sort.true

pub returns-clause-some : goal.returns-clause-some
returns-clause-some c = λ ts l tree is. right_sort c.args.sort is c.in-Some.ensures.some c.in-Some-name.ensures c.has_sort.ensures c.if-not-has_sort.false
