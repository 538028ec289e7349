use Rattle.std.proofs.Common.{◌+◌, ◌∙◌, sym, refl}
use Rattle.std.specs.Prelude.{slice_set}
use Rattle.object_types.specs.Heap.{put, write, with_field}
use Rattle.method.specs.Actions as m
use Rattle.machine_laws.proofs.Heaps.{put_finite}
use Rattle.machine_values.specs.Spots.{heap_at, spot_at}
use Rattle.machine_objects.specs.Runs.{progress_at, Follows}
use Rattle.machine_objects.proofs.Landing.{heap_follows, locals_follow}
use Rattle.machine_objects.proofs.Checks.{lands_gives, store_no_write, store_no_writes, store_gives}
use Rattle.machine_objects.proofs.store.store.Goals as goal

pub returns-in-InLocal : goal.returns-in-InLocal
returns-in-InLocal c n x e finite =
    let old = c.args.progress.now in
    rw c.in-InLocal.is (record { fits = refl; gave = locals_follow e old _ (slice_set old.locals.items c.in-InLocal.i c.args.v) finite c.set_local.ensures refl })

pub returns-then-not-may_store : goal.returns-then-not-may_store
returns-then-not-may_store c n x e finite =
    let a = c.args in
    let h = heap_at e.support a.progress.now.heap in
    rw (c.in-InField.is, c.fault.ensures) (n, store_no_write a.at.now.program.now (spot_at x a.at.now) c.in-InField.o n (progress_at e a.progress.now) c.in-InField.f a.v (sym (c.may_store.ensures x e.support) ∙ c.if-not-may_store.true))

pub returns-then-not-may_reach : goal.returns-then-not-may_reach
returns-then-not-may_reach c n x e finite =
    let a = c.args in
    rw (c.in-InField.is, c.fault-then-not-may_reach.ensures) (n + 1, store_no_writes a.at.now.program.now (spot_at x a.at.now) c.in-InField.o n (progress_at e a.progress.now) c.in-InField.f a.v (sym (c.may_store.ensures x e.support) ∙ c.if-not-may_store.false) (sym (c.may_reach.ensures x) ∙ c.if-not-may_reach.true))

pub returns-in_ok-write-in-InField : goal.returns-in_ok-write-in-InField
unfolding put
returns-in_ok-write-in-InField c n x e finite =
    let a = c.args in
    let p = a.at.now.program.now in
    let s = spot_at x a.at.now in
    let h = heap_at e.support a.progress.now.heap in
    let o = c.in-InField.o in
    let f = c.in-InField.f in
    let g = progress_at e a.progress.now in
    rw c.in-InField.is
    (lands_gives (Follows _) (m.store p s (m.InField o f) a.v n g) _
    (store_gives p s o n g f a.v (sym (c.may_store.ensures x e.support) ∙ c.if-not-may_store.false) (sym (c.may_reach.ensures x) ∙ c.if-not-may_reach.false))
    (heap_follows e a.progress.now _ (write h o f a.v) (sym c.in_ok-write-in-InField.ensures.ok) (put_finite h o (with_field f a.v (h.get o)) finite) refl))
