use Rattle.std.proofs.Common.{◌∙◌, sym}
use Rattle.machine_values.specs.Spots.{heap_at, spot_at}
use Rattle.machine_ownership.specs.Owned.{is_owned}
use Rattle.machine_ownership.proofs.Members.{every_fails, every_next, every_end}
use Rattle.machine_ownership.proofs.items.all_owned.Goals as goal

pub returns-then-not-is_owned : goal.returns-then-not-is_owned
returns-then-not-is_owned c x y =
    every_fails (is_owned (spot_at x c.args.at.now) (heap_at y c.args.h.now)) c.args.objects.now c.loop-o.o-index _ (c.loop-o.invariant x y) c.loop-o-test.true (sym (c.is_owned.ensures x y) ∙ c.if-not-is_owned.true)

pub loop-o-preserved : goal.loop-o-preserved
loop-o-preserved c x y =
    every_next (is_owned (spot_at x c.args.at.now) (heap_at y c.args.h.now)) c.args.objects.now c.loop-o.o-index _ (c.loop-o.invariant x y) c.loop-o-test.true (sym (c.is_owned.ensures x y) ∙ c.if-not-is_owned.false)

pub returns : goal.returns
returns c x y = every_end (is_owned (spot_at x c.args.at.now) (heap_at y c.args.h.now)) c.args.objects.now c.loop-o.o-index (c.loop-o.invariant x y) c.loop-o-test.false
