use Rattle.std.proofs.Common.{◌+◌, arith}
use Rattle.graph_numbering.proofs.Seen.{seen_none}
use Rattle.graph_numbering.proofs.places.Places.forget.Goals as goal

pub returns : goal.returns
returns c = λ v. seen_none c.self.inside.places.items (c.self.inside.walk + 1) c.self.inside.walk v c.self.invariant.1 (omega arith)
