use Rattle.object_types.specs.Lookups.{look_up}
use Rattle.machine_ownership.proofs.Sets.{assign_next, assign_end}
use Rattle.machine_ownership.proofs.owned.assign_owned.Goals as goal

pub loop-member-init : goal.loop-member-init
loop-member-init c = c.in_ok-clear_owned.ensures

pub loop-member-preserved : goal.loop-member-preserved
loop-member-preserved c = assign_next (look_up c.args.h.now) (look_up c.loop-member.h) c.args.o c.args.members.now c.loop-member.member-index _ _ c.loop-member.invariant c.loop-member-test.true c.in_ok-set_owned.ensures.ok

pub returns : goal.returns
returns c = assign_end (look_up c.args.h.now) (look_up c.loop-member.h) c.args.o c.args.members.now c.loop-member.member-index c.loop-member.invariant c.loop-member-test.false
