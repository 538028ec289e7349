use Rattle.std.proofs.Common.{arith}
use Rattle.vcc_base.proofs.Outcomes.{on_err}
use Rattle.schedule_replay.specs.Pieces.{piece_text}
use Rattle.schedule_replay.proofs.Left.{next_text, text_front}
use Rattle.schedule_replay.proofs.put.put_line.Goals as goal

pub returns-in_err-put_piece-clause-err : goal.returns-in_err-put_piece-clause-err
returns-in_err-put_piece-clause-err g c =
    on_err c.from_residual.result _ (text_front piece_text c.args.pieces.now c.loop-piece.piece-index _ _ _ _ _ c.loop-piece-test.true c.loop-piece.invariant.left c.in_err-put_piece.ensures.err)

pub loop-piece-preserved : goal.loop-piece-preserved
loop-piece-preserved g c = record {
  left = next_text piece_text c.args.pieces.now c.loop-piece.piece-index _ _ _ _ _ c.loop-piece-test.true c.loop-piece.invariant.left c.in_ok-put_piece.ensures.ok;
  never_falls = omega (arith, c.loop-piece.invariant.never_falls, c.in_ok-put_piece.ensures.never_falls);
}
