use Rattle.std.proofs.Common.{◌+◌, ap}
use Rattle.typed_program.specs.Views.{spec}
use Rattle.elab_shapes.proofs.Rows.{told, told_by}
use Rattle.elab_shapes.proofs.PartCounts.{hole_opened, hole_counted}
use Rattle.elab_shapes.proofs.shapes.opened_leaf.Goals as goal

pub returns-in_default-clause-spec : goal.returns-in_default-clause-spec
returns-in_default-clause-spec c =
    let d = c.in_default in
    told_by c.hole.result (λ o. o.spec) spec _ _ c.hole.ensures.spec (hole_opened c.args.next c.args.x.now d.not-Number d.not-Truth d.not-Null d.not-Has c.requires)

pub returns-in_default-clause-next : goal.returns-in_default-clause-next
returns-in_default-clause-next c =
    let d = c.in_default in
    told c.hole.result (λ o. o.next) _ _ c.hole.ensures.next (ap (λ n. c.args.next + n) (hole_counted c.args.x.now d.not-Number d.not-Truth d.not-Null d.not-Has c.requires))
