use Rattle.std.proofs.Common.{refl, sym, ◌∙◌}
use Rattle.object_types.specs.Lookups.{heap_of}
use Rattle.invariants.proofs.Touching.{alike, holds_unless_false, touched_by_part, not_touched}
use Rattle.invariants.proofs.touched.touched.Goals as goal

pub returns-then-some_part_differs : goal.returns-then-some_part_differs
returns-then-some_part_differs c =
    let found = c.some_part_differs.ensures.some c.if-some_part_differs.true in
    (λ holds. touched_by_part c.args.program.now c.args.o (heap_of c.args.before.now) (heap_of c.args.after.now) found.0 found.1, λ t. refl)

pub returns : goal.returns
returns c =
    let h0 = heap_of c.args.before.now in
    let h1 = heap_of c.args.after.now in
    let content = c.same_content.ensures.0 c.if-not-same_content.false in
    let closed = sym c.is_closed.ensures ∙ alike _ _ c.if-is_closed.false ∙ c.is_closed-2.ensures in (
      λ holds. let found = c.some_part_differs-2.ensures.some holds in touched_by_part c.args.program.now c.args.o h0 h1 found.0 found.1,
      λ t. holds_unless_false _ (λ fails. not_touched c.args.program.now c.args.o h0 h1 content closed (c.some_part_differs.ensures.none c.if-some_part_differs.false) (c.some_part_differs-2.ensures.none fails) t),
    )
