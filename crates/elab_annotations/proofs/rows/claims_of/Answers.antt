use Rattle.typed_program.proofs.Vectors.{claims}
use Rattle.elab_annotations.proofs.rows.claims_of.Goals as goal

pub returns : goal.returns
returns c = claims c.args.claim c.args.conjuncts
