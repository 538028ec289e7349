use Rattle.typed_program.proofs.Vectors.{exists}
use Rattle.elab_annotations.proofs.rows.exists_of.Goals as goal

pub returns : goal.returns
returns c = exists c.args.number c.args.ty c.args.owner c.args.conjuncts
