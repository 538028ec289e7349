use Rattle.std.proofs.Common.{ap, ◌∙◌}
use Rattle.object_types.specs.declared.references.Ref.{Ref}
use Rattle.object_types.specs.declared.records.Mode.TheVariants.{Open}
use Rattle.object_types.specs.Heap.{put, hand_over, with_status}
use Rattle.object_types.specs.Lookups.{look_up}
use Rattle.ownership.proofs.Handing.{settled}
use Rattle.ownership.proofs.effects.open_object.Goals as goal

pub returns-clause-ok : goal.returns-clause-ok
unfolding put hand_over
returns-clause-ok c =
    let h = c.args.h.now in
    let o = c.args.o in
    let status = ap (λ (w : Ref). with_status Open w (look_up c.in_ok-after.after o)) c.view.ensures.owner ∙ ap (λ l. with_status Open (look_up h o).owner (look_up l o)) c.in_ok-after.ensures in
    settled h _ _ _ o c.args.t _ _ _ _ c.in_ok-after.ensures c.in_ok-set_status.ensures.ok status c.owned.ensures c.in_ok-hand_over.ensures.ok
