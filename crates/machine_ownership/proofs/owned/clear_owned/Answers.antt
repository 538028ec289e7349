use Rattle.std.proofs.Common.{sym, ◌∙◌}
use Rattle.object_types.specs.Lookups.{look_up}
use Rattle.machine_ownership.proofs.Sets.{clear_start, clear_next, clear_smaller, clear_end, none_left}
use Rattle.machine_ownership.proofs.owned.clear_owned.Goals as goal

pub loop-member-init : goal.loop-member-init
loop-member-init c = clear_start (look_up c.args.h.now) c.args.o

pub loop-member-preserved : goal.loop-member-preserved
loop-member-preserved c = clear_next (look_up c.args.h.now) (look_up c.loop-member.h) _ c.args.o _ c.loop-member.invariant c.in_ok-set_owned.ensures.ok

pub loop-member-smaller : goal.loop-member-smaller
loop-member-smaller c = clear_smaller (look_up c.loop-member.h) _ c.args.o _ c.owned.result.now c.owned.ensures c.in-Some.ensures.value c.in_ok-set_owned.ensures.ok

pub returns : goal.returns
returns c = clear_end (look_up c.args.h.now) (look_up c.loop-member.h) c.args.o c.loop-member.invariant (sym c.owned.ensures ∙ none_left c.owned.result.now c.in_default.ensures.value)
