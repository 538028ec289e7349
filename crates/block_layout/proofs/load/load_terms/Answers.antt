use Rattle.block_layout.proofs.Spaces.{keeps_then, sorts_stay}
use Rattle.block_layout.proofs.Laying.{behind_limit, puts_behind}
use Rattle.block_layout.proofs.load.load_terms.Goals as goal

pub returns-then-is_past_limit-clause-put : goal.returns-then-is_past_limit-clause-put
returns-then-is_past_limit-clause-put c =
    behind_limit c.args.language.now c.args.added.now c.args.space.now c.sort_all.new.self c.args.names.now.items c.args.names.now.items (c.is_past_limit.ensures.past c.if-is_past_limit.true)

pub returns-in_err-stop-clause-kept : goal.returns-in_err-stop-clause-kept
returns-in_err-stop-clause-kept c = keeps_then c.sort_all.ensures.kept c.put_added.ensures.kept

pub returns-clause-put : goal.returns-clause-put
returns-clause-put c =
    puts_behind c.args.language.now c.args.added.now c.args.space.now c.sort_all.new.self c.put_added.new.space c.args.names.now.items c.put_added.new.names.items c.in_ok-stop.stop
    c.sort_all.ensures.kept c.in_ok-sort_all.ensures.sorted c.in_ok-stop.ensures.put

pub returns-clause-kept : goal.returns-clause-kept
returns-clause-kept c = keeps_then c.sort_all.ensures.kept c.put_added.ensures.kept

pub returns-clause-sorted : goal.returns-clause-sorted
returns-clause-sorted c = sorts_stay c.in_ok-sort_all.ensures.sorted c.in_ok-stop.ensures.sorted
