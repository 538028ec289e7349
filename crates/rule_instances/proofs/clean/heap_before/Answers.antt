use Rattle.condition_formulas.proofs.Rows.{same_ids}
use Rattle.condition_formulas.proofs.Walks.{opened}
use Rattle.rule_instances.proofs.Heaps.{some_below, none_below, first_below, changes_status, stores, stores_else, stored_by, set_kind}
use Rattle.rule_instances.proofs.clean.heap_before.Goals as goal

pub returns-then-not-stores_last-clause-none : goal.returns-then-not-stores_last-clause-none
returns-then-not-stores_last-clause-none c = λ f is.
    let o = opened c.node-node.ensures.node is in
    stores_else c.args.program.now o c.in-Set.is (stored_by c.args.program.now o c.column_of_node-column.ensures (same_ids c.numbers.ensures o.all) c.stores_last.ensures) c.if-not-stores_last.true

pub returns-else-not-stores_last-clause-some : goal.returns-else-not-stores_last-clause-some
returns-else-not-stores_last-clause-some c = λ f is.
    let o = opened c.node-node.ensures.node is in
    let by = stored_by c.args.program.now o c.column_of_node-column.ensures (same_ids c.numbers.ensures o.all) c.stores_last.ensures in
    some_below c.args.program.now c.term_at.result o c.term_at.ensures c.numbers-in-Set.ensures (stores c.args.program.now c.node-node.result.now o.parts c.in-Set.is by c.if-not-stores_last.false)

pub returns-else-not-stores_last-clause-none : goal.returns-else-not-stores_last-clause-none
returns-else-not-stores_last-clause-none c = λ f is.
    let o = opened c.node-node.ensures.node is in
    let by = stored_by c.args.program.now o c.column_of_node-column.ensures (same_ids c.numbers.ensures o.all) c.stores_last.ensures in
    none_below c.args.program.now c.term_at.result o c.term_at.ensures c.numbers-in-Set.ensures (stores c.args.program.now c.node-node.result.now o.parts c.in-Set.is by c.if-not-stores_last.false) (set_kind c.in-Set.is)

pub returns-else-not-stores_last-clause-below : goal.returns-else-not-stores_last-clause-below
returns-else-not-stores_last-clause-below c = first_below c.term_at.result c.term_at.ensures c.numbers-in-Set.ensures c.node-node.ensures.below

pub returns-in-Open-clause-some : goal.returns-in-Open-clause-some
returns-in-Open-clause-some c = λ f is.
    let o = opened c.node-node.ensures.node is in
    some_below c.args.program.now c.term_at-in-Open.result o c.term_at-in-Open.ensures c.numbers-in-Open.ensures (changes_status c.args.program.now c.node-node.result.now o.parts c.in-Open.is).0

pub returns-in-Open-clause-none : goal.returns-in-Open-clause-none
returns-in-Open-clause-none c = λ f is.
    let o = opened c.node-node.ensures.node is in
    let looks = changes_status c.args.program.now c.node-node.result.now o.parts c.in-Open.is in
    none_below c.args.program.now c.term_at-in-Open.result o c.term_at-in-Open.ensures c.numbers-in-Open.ensures looks.0 looks.1

pub returns-in-Open-clause-below : goal.returns-in-Open-clause-below
returns-in-Open-clause-below c = first_below c.term_at-in-Open.result c.term_at-in-Open.ensures c.numbers-in-Open.ensures c.node-node.ensures.below
