use Rattle.std.proofs.Common.{arith}
use Rattle.typed_program.specs.Views.{spec}
use Rattle.elab_shapes.specs.Parts.{parts}
use Rattle.elab_shapes.specs.Views.{part}
use Rattle.elab_shapes.proofs.ByParts.{part_lower}
use Rattle.elab_shapes.proofs.Alike.{same_so_far, other_form, other_detail, as_many, one_alike, one_differs, all_compared}
use Rattle.elab_shapes.proofs.same.+same.Goals as goal

pub returns-then-not-same_form : goal.returns-then-not-same_form
returns-then-not-same_form t c = other_form (spec c.args.x.now) (spec c.args.y.now) _ c.same_form.ensures c.if-not-same_form.true

pub returns-then-not-same_detail : goal.returns-then-not-same_detail
returns-then-not-same_detail t c =
    other_detail (spec c.args.x.now) (spec c.args.y.now) _ _ c.same_form.ensures c.if-not-same_form.false c.same_detail.ensures c.if-not-same_detail.true

pub loop-i-init : goal.loop-i-init
loop-i-init t c = same_so_far (spec c.args.x.now) (spec c.args.y.now) _ _ c.same_form.ensures c.if-not-same_form.false c.same_detail.ensures c.if-not-same_detail.false

pub part_at-other-requires : goal.part_at-other-requires
part_at-other-requires t c =
    let x = spec c.args.x.now in
    let y = spec c.args.y.now in
    omega (arith, c.loop-i-test.true, c.count-i-end.ensures, as_many x y c.same_form.result c.same_form.ensures c.if-not-same_form.false)

pub same-requires : goal.same-requires
same-requires t c = (omega (arith, c.decreases, part_lower (spec c.args.x.now) c.loop-i.i (part c.part_at-one.result) (omega (arith, c.loop-i-test.true, c.count-i-end.ensures)) c.part_at-one.ensures), tt)

pub loop-i-preserved : goal.loop-i-preserved
loop-i-preserved t c =
    let x = spec c.args.x.now in
    let y = spec c.args.y.now in
    one_alike (parts x) (parts y) c.loop-i.i (part c.part_at-one.result) (part c.part_at-other.result) (omega (arith, c.loop-i-test.true, c.count-i-end.ensures)) (omega (arith, c.loop-i-test.true, c.count-i-end.ensures, as_many x y c.same_form.result c.same_form.ensures c.if-not-same_form.false)) c.part_at-one.ensures c.part_at-other.ensures _ _ c.same.ensures c.if-not-same.false c.loop-i.invariant

pub returns-then-not-same : goal.returns-then-not-same
returns-then-not-same t c =
    let x = spec c.args.x.now in
    let y = spec c.args.y.now in
    one_differs (parts x) (parts y) c.loop-i.i (part c.part_at-one.result) (part c.part_at-other.result) (omega (arith, c.loop-i-test.true, c.count-i-end.ensures)) (omega (arith, c.loop-i-test.true, c.count-i-end.ensures, as_many x y c.same_form.result c.same_form.ensures c.if-not-same_form.false)) c.part_at-one.ensures c.part_at-other.ensures _ _ c.same.ensures c.if-not-same.true c.loop-i.invariant

pub returns : goal.returns
returns t c =
    let x = spec c.args.x.now in
    let y = spec c.args.y.now in
    let many = as_many x y c.same_form.result c.same_form.ensures c.if-not-same_form.false in
    all_compared (parts x) (parts y) c.loop-i.i _ (omega (arith, c.count-i-end.ensures)) (omega (arith, c.count-i-end.ensures, many)) c.loop-i.invariant
