use Rattle.vcc_io.proofs.Fronts.{holds_piece}
use Rattle.vcc_io.proofs.pieces.read_piece.Goals as goal

pub returns-clause-piece : goal.returns-clause-piece
returns-clause-piece g c = λ m given. holds_piece (g.S.Store.contents c.args.store.now) m c.args.name.now _ c.args.offset _ _ given c.in-Ok.ensures.absent c.in-Ok.ensures.bytes
