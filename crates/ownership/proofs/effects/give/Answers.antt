use Rattle.std.proofs.Common.{true, refl, ap}
use Rattle.object_types.specs.Heap.{put, hand_over, with_owned}
use Rattle.object_types.specs.Lookups.{look_up}
use Rattle.ownership.proofs.Handing.{settled}
use Rattle.ownership.proofs.effects.give.Goals as goal

pub returns-clause-ok : goal.returns-clause-ok
unfolding put hand_over
returns-clause-ok c =
    let to = c.args.to in
    let joined = ap (λ l. with_owned c.args.from true (look_up l to)) c.in_ok-after.ensures in
    settled c.args.h.now _ _ _ to to _ _ _ _ c.in_ok-after.ensures c.in_ok-set_owned.ensures.ok joined refl c.in_ok-hand_over.ensures.ok
