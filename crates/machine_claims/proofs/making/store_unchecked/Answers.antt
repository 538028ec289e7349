use Rattle.std.proofs.Common.{◌∙◌, ap}
use Rattle.object_types.specs.Heap.{put, put_at, with_field}
use Rattle.object_types.specs.Lookups.{look_up}
use Rattle.machine_claims.proofs.making.store_unchecked.Goals as goal

pub returns-in_ok-write-in-InField : goal.returns-in_ok-write-in-InField
unfolding put
returns-in_ok-write-in-InField c y =
    let o = c.in-InField.o in
    let f = c.in-InField.f in
    rw c.in-InField.is (c.in_ok-write-in-InField.ensures.ok ∙ ap (λ k. put_at (look_up k) o (with_field f c.args.v (look_up k o))) c.in_ok-stored-in-InField.ensures)
