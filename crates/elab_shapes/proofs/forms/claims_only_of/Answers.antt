use Rattle.std.proofs.Common.{sym, ap, ◌∙◌}
use Rattle.typed_program.specs.Trees as t
use Rattle.typed_program.specs.Views.{spec}
use Rattle.typed_program.proofs.Vectors.{claims_only}
use Rattle.elab_shapes.proofs.ByParts.{row_is}
use Rattle.elab_shapes.proofs.forms.claims_only_of.Goals as goal

pub returns : goal.returns
returns c = claims_only c.args.number c.args.claim c.args.objects ∙ ap (t.SClaimsOnly c.args.number (spec c.args.claim.value)) (sym (row_is c.args.objects.items))
