use Rattle.std.proofs.Common.{ap, ◌∙◌}
use Rattle.typed_program.specs.Trees as t
use Rattle.typed_program.specs.Views as views
use Rattle.elab_annotations.specs.Typing.{alone}
use Rattle.elab_annotations.specs.Views.{boxed}
use Rattle.elab_annotations.proofs.Specs.{row_seen}
use Rattle.elab_annotations.proofs.Steps.{told}
use Rattle.elab_annotations.proofs.rows.claims_only.Goals as goal

pub returns : goal.returns
returns c =
    let xs = c.args.objects.specs.items in
    let next = c.args.objects.next in
    told boxed c.new.result c.new.ensures
    (ap (λ (w : t.Spec). alone w next) (c.claims_only_of.ensures ∙ ap (t.SClaimsOnly c.args.number (views.spec c.args.claim.spec.value)) (row_seen xs)))
