use Rattle.condition_formulas.proofs.Rows.{more, none}
use Rattle.condition_actions.proofs.Transfers.{passes_none, passes_one, passes_all}
use Rattle.condition_actions.proofs.threads.transfer.Goals as goal

pub loop-o-init : goal.loop-o-init
loop-o-init c = passes_none _ _ _ _

pub loop-o-preserved : goal.loop-o-preserved
loop-o-preserved c =
    passes_one c.args.graph.now c.loop-o.graph c.set.new.graph c.args.thread c.args.heap c.args.objects.now c.loop-o.o-index c.loop-o.behind c.in_ok-behind.behind c.loop-o.invariant c.loop-o-test.true c.in_ok-behind.ensures.later
    (λ h o t hh ho ht. c.in_ok-behind.ensures.stands h _ t hh (more ho none) ht)

pub returns-clause-stands : goal.returns-clause-stands
returns-clause-stands c = passes_all c.loop-o.invariant c.loop-o-test.false
