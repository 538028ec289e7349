use Rattle.std.proofs.Common.{◌∙◌, true, ap}
use Rattle.object_types.specs.Sets.{is_in}
use Rattle.machine_values.specs.Spots.{heap_at, spot_at}
use Rattle.machine_values.proofs.Readable.{reads_listed, reads_volatile, reads_stable, stable_test, stable_owned}
use Rattle.machine_values.proofs.eval.is_readable.Goals as goal

pub returns-then-is_listed : goal.returns-then-is_listed
returns-then-is_listed c x y finite =
    let at_ = c.args.at.now in
    reads_listed at_.program.now (spot_at x at_) (heap_at y c.args.heap.now) c.args.o c.args.field c.mutable.result c.is_listed.result c.mutable.ensures c.if-mutable.false (c.is_listed.ensures x) c.if-is_listed.true

pub returns-then-is_volatile : goal.returns-then-is_volatile
returns-then-is_volatile c x y finite =
    let at_ = c.args.at.now in
    reads_volatile at_.program.now (spot_at x at_) (heap_at y c.args.heap.now) c.args.o c.args.field c.mutable.result c.is_listed.result c.is_volatile.result c.mutable.ensures (c.is_listed.ensures x) c.is_volatile.ensures c.if-mutable.false c.if-is_listed.false c.if-is_volatile.true

pub returns-then-is_stable_by_owners : goal.returns-then-is_stable_by_owners
returns-then-is_stable_by_owners c x y finite =
    let at_ = c.args.at.now in
    let p = at_.program.now in
    let o = c.args.o in
    reads_stable p (spot_at x at_) (heap_at y c.args.heap.now) o c.args.field c.mutable.result c.is_listed.result c.is_volatile.result c.mutable.ensures (c.is_listed.ensures x) c.is_volatile.ensures c.if-mutable.false c.if-is_listed.false true c.if-is_volatile.false
    (stable_owned p at_.context.now.me c.args.heap.now y o (c.is_stable_by_owners.ensures c.if-is_stable_by_owners.true) finite)

pub returns : goal.returns
returns c x y finite =
    let at_ = c.args.at.now in
    let p = at_.program.now in
    let o = c.args.o in
    let found = c.in_ok-stable.stable.items in
    reads_stable p (spot_at x at_) (heap_at y c.args.heap.now) o c.args.field c.mutable.result c.is_listed.result c.is_volatile.result c.mutable.ensures (c.is_listed.ensures x) c.is_volatile.ensures c.if-mutable.false c.if-is_listed.false c.contains.result c.if-is_volatile.false
    (c.contains.ensures ∙ ap (is_in o) c.deref.ensures.value ∙ stable_test p at_.context.now.me c.args.heap.now y found o c.in_ok-stable.ensures.members finite)
