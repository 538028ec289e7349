use Rattle.std.proofs.Common.{◌∷◌, arith}
use Rattle.vcc_base.proofs.Outcomes.{on_err}
use Rattle.vcc_base.proofs.Printing.{is_written, is_front}
use Rattle.schedule_replay.specs.Pieces.{ref_text}
use Rattle.schedule_replay.proofs.Left.{next_text, text_front}
use Rattle.schedule_replay.proofs.Texts.{member_text}
use Rattle.schedule_replay.proofs.records.put_spaced.Goals as goal

pub returns-in_err-put_line-clause-err : goal.returns-in_err-put_line-clause-err
returns-in_err-put_line-clause-err g c =
    on_err c.from_residual-in_err-put_line.result _ (text_front (λ q. 32 ∷ ref_text q) c.in-Some.others.now c.loop-member.member-index _ _ _ _ _ c.loop-member-test.true c.loop-member.invariant.left (is_front _ _ _ _ (member_text _) c.in_err-put_line.ensures.err))

pub loop-member-preserved : goal.loop-member-preserved
loop-member-preserved g c = record {
  left = next_text (λ q. 32 ∷ ref_text q) c.in-Some.others.now c.loop-member.member-index _ _ _ _ _ c.loop-member-test.true c.loop-member.invariant.left (is_written _ _ _ _ (member_text _) c.in_ok-put_line.ensures.ok);
  never_falls = omega (arith, c.loop-member.invariant.never_falls, c.in_ok-put_line.ensures.never_falls);
}
