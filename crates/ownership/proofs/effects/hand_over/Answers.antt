use Rattle.object_types.specs.Heap.{hand_over}
use Rattle.ownership.proofs.Handing.{hand_start, hand_next, hand_end}
use Rattle.ownership.proofs.effects.hand_over.Goals as goal

pub loop-member-init : goal.loop-member-init
loop-member-init c = hand_start _ _

pub loop-member-preserved : goal.loop-member-preserved
loop-member-preserved c = hand_next _ _ c.args.members.now c.loop-member.member-index _ c.args.owner _ _ c.loop-member.invariant c.loop-member-test.true c.view-mode.ensures.mode c.in_ok-set_status.ensures.ok

pub returns : goal.returns
unfolding hand_over
returns c = record { ok = hand_end _ _ c.args.members.now c.loop-member.member-index c.args.owner c.loop-member.invariant c.loop-member-test.false }
