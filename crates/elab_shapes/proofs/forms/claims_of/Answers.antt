use Rattle.std.proofs.Common.{sym, ap, ◌∙◌}
use Rattle.typed_program.specs.Trees as t
use Rattle.typed_program.specs.Views.{spec}
use Rattle.typed_program.proofs.Vectors.{claims}
use Rattle.elab_shapes.proofs.ByParts.{row_is}
use Rattle.elab_shapes.proofs.forms.claims_of.Goals as goal

pub returns : goal.returns
returns c = claims c.args.claim c.args.conjuncts ∙ ap (t.SClaims (spec c.args.claim.value)) (sym (row_is c.args.conjuncts.items))
