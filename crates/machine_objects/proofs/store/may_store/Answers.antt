use Rattle.std.proofs.Common.{◌∙◌, sym}
use Rattle.object_types.specs.Heap.{mutable}
use Rattle.method.specs.Tables.{is_volatile, is_approved}
use Rattle.method.specs.Expressions.{is_listed}
use Rattle.method.specs.Actions.{may_count}
use Rattle.machine_values.specs.Spots.{heap_at, spot_at}
use Rattle.machine_objects.proofs.Storing.{stores_own, stores_unlisted, stores_fixed, stores_free, stores_counted}
use Rattle.machine_objects.proofs.store.may_store.Goals as goal

pub returns-then-mutable : goal.returns-then-mutable
returns-then-mutable c x y =
    let p = c.args.at.now.program.now in
    let s = spot_at x c.args.at.now in
    let h = heap_at y c.args.heap.now in
    let o = c.args.o in
    let f = c.args.f in
    stores_own (mutable s.context.me h o) (is_listed s o) (is_volatile p f) (is_approved p f) (may_count s h o) (sym c.mutable.ensures ∙ c.if-mutable.true)

pub returns-then-not-is_listed : goal.returns-then-not-is_listed
returns-then-not-is_listed c x y =
    let p = c.args.at.now.program.now in
    let s = spot_at x c.args.at.now in
    let h = heap_at y c.args.heap.now in
    let o = c.args.o in
    let f = c.args.f in
    stores_unlisted (mutable s.context.me h o) (is_listed s o) (is_volatile p f) (is_approved p f) (may_count s h o) (sym c.mutable.ensures ∙ c.if-mutable.false) (sym (c.is_listed.ensures x) ∙ c.if-not-is_listed.true)

pub returns-then-not-is_volatile : goal.returns-then-not-is_volatile
returns-then-not-is_volatile c x y =
    let p = c.args.at.now.program.now in
    let s = spot_at x c.args.at.now in
    let h = heap_at y c.args.heap.now in
    let o = c.args.o in
    let f = c.args.f in
    stores_fixed (mutable s.context.me h o) (is_listed s o) (is_volatile p f) (is_approved p f) (may_count s h o) (sym c.mutable.ensures ∙ c.if-mutable.false) (sym (c.is_listed.ensures x) ∙ c.if-not-is_listed.false) (sym c.is_volatile.ensures ∙ c.if-not-is_volatile.true)

pub returns-then-not-is_approved : goal.returns-then-not-is_approved
returns-then-not-is_approved c x y =
    let p = c.args.at.now.program.now in
    let s = spot_at x c.args.at.now in
    let h = heap_at y c.args.heap.now in
    let o = c.args.o in
    let f = c.args.f in
    stores_free (mutable s.context.me h o) (is_listed s o) (is_volatile p f) (is_approved p f) (may_count s h o) (sym c.mutable.ensures ∙ c.if-mutable.false) (sym (c.is_listed.ensures x) ∙ c.if-not-is_listed.false) (sym c.is_volatile.ensures ∙ c.if-not-is_volatile.false) (sym c.is_approved.ensures ∙ c.if-not-is_approved.true)

pub returns : goal.returns
returns c x y =
    let p = c.args.at.now.program.now in
    let s = spot_at x c.args.at.now in
    let h = heap_at y c.args.heap.now in
    let o = c.args.o in
    let f = c.args.f in
    c.may_count.ensures x y ∙ stores_counted (mutable s.context.me h o) (is_listed s o) (is_volatile p f) (is_approved p f) (may_count s h o) (sym c.mutable.ensures ∙ c.if-mutable.false) (sym (c.is_listed.ensures x) ∙ c.if-not-is_listed.false) (sym c.is_volatile.ensures ∙ c.if-not-is_volatile.false) (sym c.is_approved.ensures ∙ c.if-not-is_approved.false)
