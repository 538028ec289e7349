use Rattle.std.proofs.Common.{ap, ◌∙◌, arith, List, Option}
use Rattle.terms.specs.declared.sort.Sort.{Sort}
use Rattle.term_sorts.specs.Sorting.{sort_of_node}
use Rattle.term_sorts.proofs.Trees.{sorted_one, longer, all_sorts}
use Rattle.term_sorts.proofs.table.SortTable.extend.Goals as goal

pub loop-id-preserved : goal.loop-id-preserved
loop-id-preserved c = record {
  long = longer c.loop-id.self-inside.sorts.items c.in_ok-sort.sort c.loop-id.invariant.long c.in_ok-push.ensures.items;
  first = λ m columns h. sorted_one c.loop-id.id c.loop-id.invariant.long columns (c.loop-id.invariant.first m columns h) c.node.ensures.node c.node.ensures.below (c.in_ok-sort.ensures ∙ ap (λ (xs : List (Option Sort)). sort_of_node xs c.node.result.now c.args.columns.now) c.deref.ensures.value) c.in_ok-push.ensures.items;
}

pub returns-clause-all : goal.returns-clause-all
returns-clause-all c = λ l columns h. all_sorts (c.loop-id.invariant.first l columns h) (omega arith)
