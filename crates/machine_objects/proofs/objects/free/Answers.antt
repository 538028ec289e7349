use Rattle.std.proofs.Common.{◌+◌, ◌∙◌, sym, refl}
use Rattle.object_types.specs.declared.records.Mode.TheVariants.{Freed}
use Rattle.object_types.specs.References.{null}
use Rattle.object_types.specs.Heap.{put}
use Rattle.method.specs.Actions as m
use Rattle.machine_laws.proofs.Heaps.{put_finite}
use Rattle.machine_values.specs.Spots.{heap_at, spot_at}
use Rattle.machine_objects.specs.Runs.{progress_at, Follows}
use Rattle.machine_objects.proofs.Landing.{heap_follows}
use Rattle.machine_objects.proofs.Checks.{lands_gives, free_no_free, free_no_writes, free_gives}
use Rattle.machine_objects.proofs.objects.free.Goals as goal

pub returns-then-not-mutable : goal.returns-then-not-mutable
returns-then-not-mutable c n x e finite =
    let a = c.args in
    rw c.fault.ensures (n, free_no_free a.at.now.program.now (spot_at x a.at.now) a.o n (progress_at e a.progress.now) (sym c.mutable.ensures ∙ c.if-not-mutable.true))

pub returns-then-not-may_write : goal.returns-then-not-may_write
returns-then-not-may_write c n x e finite =
    let a = c.args in
    rw c.fault-then-not-may_write.ensures (n + 1, free_no_writes a.at.now.program.now (spot_at x a.at.now) a.o n (progress_at e a.progress.now) (sym c.mutable.ensures ∙ c.if-not-mutable.false) (sym (c.may_write.ensures x) ∙ c.if-not-may_write.true))

pub returns : goal.returns
unfolding put
returns c n x e finite =
    let a = c.args in
    let s = spot_at x a.at.now in
    let h = heap_at e.support a.progress.now.heap in
    let k = put h a.o (record (h.get a.o) { mode = Freed; owner = null }) in
    lands_gives (Follows _) (m.free a.at.now.program.now s a.o n (progress_at e a.progress.now)) _
    (free_gives a.at.now.program.now s a.o n (progress_at e a.progress.now) (sym c.mutable.ensures ∙ c.if-not-mutable.false) (sym (c.may_write.ensures x) ∙ c.if-not-may_write.false))
    (heap_follows e a.progress.now _ k (sym c.in_ok-set_status.ensures.ok) (put_finite h a.o (record (h.get a.o) { mode = Freed; owner = null }) finite) refl)
