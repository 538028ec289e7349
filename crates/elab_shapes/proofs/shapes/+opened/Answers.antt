use Rattle.std.proofs.Common.{◌+◌, length, ap, ◌∙◌, arith}
use Rattle.typed_program.specs.Views.{spec}
use Rattle.elab_shapes.specs.Parts.{parts, with_parts}
use Rattle.elab_shapes.specs.Views.{part}
use Rattle.elab_shapes.proofs.ByParts.{part_lower, holes_of_parts, opened_by_parts, one_opened, all_opened_up, one_counted, all_counted}
use Rattle.elab_shapes.proofs.PartCounts.{as_many_opened}
use Rattle.elab_shapes.proofs.shapes.+opened.Goals as goal

pub opened-requires : goal.opened-requires
opened-requires t c = (omega (arith, c.decreases, part_lower (spec c.args.x.now) c.loop-i.i (part c.part_at-one.result) (omega (arith, c.loop-i-test.true, c.count-number.ensures)) c.part_at-one.ensures), tt)

pub loop-i-preserved : goal.loop-i-preserved
loop-i-preserved t c =
    let all = parts (spec c.args.x.now) in
    let l = c.loop-i in
    let y = part c.part_at-one.result in
    let one = c.in_ok-done in
    record {
      parts = one_opened all l.i y (omega (arith, c.loop-i-test.true, c.count-number.ensures)) c.part_at-one.ensures l.parts.items c.push.new.self.items one.done.spec l.following one.done.next _ c.in_ok-push.ensures.items one.ensures.spec one.ensures.next l.invariant.parts;
      next = one_counted all l.i y (omega (arith, c.loop-i-test.true, c.count-number.ensures)) c.part_at-one.ensures l.following one.done.next _ one.ensures.next l.invariant.next;
    }

pub opened_leaf-requires : goal.opened_leaf-requires
opened_leaf-requires t c = omega (arith, c.count-number.ensures, c.if-number-eq0.true)

pub with_parts-requires : goal.with_parts-requires
with_parts-requires t c =
    let all = parts (spec c.args.x.now) in
    let l = c.loop-i in
    as_many_opened c.args.next all l.parts.items (all_opened_up all l.i l.following (omega (arith, c.count-number.ensures)) l.parts.items _ l.invariant.parts)

pub returns-clause-spec : goal.returns-clause-spec
returns-clause-spec t c =
    let x = spec c.args.x.now in
    let l = c.loop-i in
    c.in_ok-whole.ensures ∙ (ap (with_parts x) (all_opened_up (parts x) l.i l.following (omega (arith, c.count-number.ensures)) l.parts.items _ l.invariant.parts)
    ∙ opened_by_parts c.args.next x (λ e. omega (arith, e, c.count-number.ensures, c.if-number-eq0.false)))

pub returns-clause-next : goal.returns-clause-next
returns-clause-next t c =
    let x = spec c.args.x.now in
    let l = c.loop-i in
    all_counted (parts x) l.i l.following _ (omega (arith, c.count-number.ensures)) l.invariant.next ∙ ap (λ ns. c.args.next + length ns) (holes_of_parts x (λ e. omega (arith, e, c.count-number.ensures, c.if-number-eq0.false)))
