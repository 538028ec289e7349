use Rattle.std.proofs.Common.{rules}
use Rattle.std.proofs.lemmas.List.{take_rest}
use Rattle.schedule_format.proofs.Pieces.{one_piece, first_piece}
use Rattle.schedule_format.proofs.words.cut.Goals as goal

pub returns-in_err-end-clause-none : goal.returns-in_err-end-clause-none
returns-in_err-end-clause-none c = rw c.from_residual.ensures (one_piece c.args.byte c.args.text.now (search rules))

pub returns-clause-some : goal.returns-clause-some
returns-clause-some c = rw take_rest (first_piece c.args.byte c.args.text.now c.in_ok-end.end (search rules) (search rules) (search rules))
