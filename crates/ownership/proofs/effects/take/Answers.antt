use Rattle.std.proofs.Common.{false, refl, ap}
use Rattle.object_types.specs.Heap.{put, hand_over, with_owned}
use Rattle.object_types.specs.Lookups.{look_up}
use Rattle.ownership.proofs.Handing.{settled}
use Rattle.ownership.proofs.effects.take.Goals as goal

pub returns-clause-ok : goal.returns-clause-ok
unfolding put hand_over
returns-clause-ok c =
    let owner = c.args.owner in
    let left = ap (λ l. with_owned c.args.p false (look_up l owner)) c.in_ok-after.ensures in
    settled c.args.h.now _ _ _ owner c.args.t _ _ _ _ c.in_ok-after.ensures c.in_ok-set_owned.ensures.ok left refl c.in_ok-hand_over.ensures.ok
