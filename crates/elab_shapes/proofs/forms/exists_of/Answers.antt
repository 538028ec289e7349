use Rattle.std.proofs.Common.{sym, ap, ◌∙◌}
use Rattle.typed_program.specs.Trees as t
use Rattle.typed_program.specs.Views.{spec}
use Rattle.typed_program.proofs.Vectors.{exists}
use Rattle.elab_shapes.proofs.ByParts.{row_is}
use Rattle.elab_shapes.proofs.forms.exists_of.Goals as goal

pub returns : goal.returns
returns c = exists c.args.number c.args.ty c.args.owner c.args.conjuncts ∙ ap (t.SExists c.args.number c.args.ty (spec c.args.owner.value)) (sym (row_is c.args.conjuncts.items))
