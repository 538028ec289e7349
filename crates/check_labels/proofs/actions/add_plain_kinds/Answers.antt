use Rattle.check_labels.proofs.Steps.{plain_step}
use Rattle.check_labels.proofs.actions.add_plain_kinds.Goals as goal

pub loop-entry-preserved : goal.loop-entry-preserved
loop-entry-preserved c =
    plain_step c.args.listed.now c.loop-entry.entry-index c.entry-item.result _ _ _ c.loop-entry-test.true c.entry-item.is c.in_ok-add_plain_kind.ensures c.loop-entry.invariant
