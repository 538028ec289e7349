use Rattle.std.proofs.Common.{◌+◌, ◌∙◌, sym, refl}
use Rattle.object_types.specs.declared.records.Mode.TheVariants.{Open}
use Rattle.object_types.specs.Heap.{put, hand_over}
use Rattle.method.specs.Actions as m
use Rattle.machine_laws.proofs.Heaps.{put_finite, hand_finite}
use Rattle.machine_values.specs.Spots.{heap_at, spot_at}
use Rattle.machine_objects.specs.Runs.{progress_at, Follows}
use Rattle.machine_objects.proofs.Landing.{heap_follows}
use Rattle.machine_objects.proofs.Checks.{lands_gives, unwrap_no_unwrap, unwrap_no_writes, unwrap_claimed, unwrap_gives}
use Rattle.machine_objects.proofs.objects.unwrap_object.Goals as goal

pub returns-then-not-wrapped : goal.returns-then-not-wrapped
returns-then-not-wrapped c n x e finite =
    let a = c.args in
    rw c.fault.ensures (n, unwrap_no_unwrap a.at.now.program.now (spot_at x a.at.now) a.o n (progress_at e a.progress.now) (sym c.wrapped.ensures ∙ c.if-not-wrapped.true))

pub returns-then-not-may_write : goal.returns-then-not-may_write
returns-then-not-may_write c n x e finite =
    let a = c.args in
    rw c.fault-then-not-may_write.ensures (n + 1, unwrap_no_writes a.at.now.program.now (spot_at x a.at.now) a.o n (progress_at e a.progress.now) (sym c.wrapped.ensures ∙ c.if-not-wrapped.false) (sym (c.may_write.ensures x) ∙ c.if-not-may_write.true))

pub returns-then-not-is_unclaimed : goal.returns-then-not-is_unclaimed
returns-then-not-is_unclaimed c n x e finite =
    let a = c.args in
    rw c.fault-then-not-is_unclaimed.ensures (n + 2, unwrap_claimed a.at.now.program.now (spot_at x a.at.now) a.o n (progress_at e a.progress.now) (sym c.wrapped.ensures ∙ c.if-not-wrapped.false) (sym (c.may_write.ensures x) ∙ c.if-not-may_write.false) (sym c.is_unclaimed.ensures ∙ c.if-not-is_unclaimed.true))

pub returns : goal.returns
unfolding put hand_over
returns c n x e finite =
    let a = c.args in
    let s = spot_at x a.at.now in
    let h = heap_at e.support a.progress.now.heap in
    let opened = put h a.o (record (h.get a.o) { mode = Open }) in
    let k = hand_over opened (h.get a.o).owned s.context.me in
    lands_gives (Follows _) (m.unwrap_object a.at.now.program.now s a.o n (progress_at e a.progress.now)) _
    (unwrap_gives a.at.now.program.now s a.o n (progress_at e a.progress.now) (sym c.wrapped.ensures ∙ c.if-not-wrapped.false) (sym (c.may_write.ensures x) ∙ c.if-not-may_write.false) (sym c.is_unclaimed.ensures ∙ c.if-not-is_unclaimed.false))
    (heap_follows e a.progress.now _ k (sym c.in_ok-open_object.ensures.ok) (hand_finite opened (h.get a.o).owned s.context.me (put_finite h a.o (record (h.get a.o) { mode = Open }) finite)) refl)
