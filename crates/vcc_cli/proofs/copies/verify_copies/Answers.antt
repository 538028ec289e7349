use Rattle.std.proofs.Common.{inl, inr, refl}
use Rattle.vcc_cli.proofs.Generating.{answer_shows, refusal_shows}
use Rattle.vcc_cli.proofs.copies.verify_copies.Goals as goal

pub returns-in-Err-clause-answered : goal.returns-in-Err-clause-answered
returns-in-Err-clause-answered g c = record {
  answer = _;
  answers = inl (record { refusal = c.in-Err.refusal; is = refl; why = c.in-Err.ensures.refused });
  reported = c.report.ensures.reported;
}

pub returns-in-Err-clause-shows : goal.returns-in-Err-clause-shows
returns-in-Err-clause-shows g c = refusal_shows c.args.copies c.in-Err.refusal _ _ c.report.ensures.reported

pub returns-clause-answered : goal.returns-clause-answered
returns-clause-answered g c = record {
  answer = c.verdict-answer.result;
  answers = inr (c.in-Ok.program, c.in-Ok.ensures.program, c.verdict-answer.ensures.answer);
  reported = c.report_answer-status.ensures;
}

pub returns-clause-shows : goal.returns-clause-shows
returns-clause-shows g c =
    answer_shows c.args.copies c.in-Ok.program c.verdict-answer.result _ _ c.in-Ok.ensures.program c.sources_are_annotated.ensures c.sources_are_safe.ensures c.verdict-answer.ensures.valid c.verdict-answer.ensures.answer c.report_answer-status.ensures
