use Rattle.std.proofs.Common.{◌∙◌}
use Rattle.claims.proofs.Turned.{turned}
use Rattle.claims.proofs.shape.same_rows.Goals as goal

pub returns : goal.returns
returns c = c.is_same.ensures ∙ turned c.args.right.now c.args.left.now
