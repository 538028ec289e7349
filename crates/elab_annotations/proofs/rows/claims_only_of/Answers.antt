use Rattle.typed_program.proofs.Vectors.{claims_only}
use Rattle.elab_annotations.proofs.rows.claims_only_of.Goals as goal

pub returns : goal.returns
returns c = claims_only c.args.number c.args.claim c.args.objects
