use Rattle.std.proofs.Common.{inl, inr, refl, ◌∙◌, arith}
use Rattle.vcc_io.proofs.Statuses.{is_yes}
use Rattle.vcc_cli.proofs.Checking.{holds_safe}
use Rattle.vcc_cli.proofs.check.check.Goals as goal

pub returns-clause-checked : goal.returns-clause-checked
returns-clause-checked g c = λ m given. record {
  answer = c.judge_name-answer.result;
  answers = inr (c.in-Ok.program, c.in-Ok.ensures.answer m given, c.judge_name-answer.ensures.answer m (c.in-Ok.ensures.kept ∙ given));
  fault = λ is. let rose = c.judge_name-answer.ensures.fault is in omega (arith, rose, c.in-Ok.ensures.never_falls);
  reported = c.report-status.ensures.reported;
}

pub returns-clause-safe : goal.returns-clause-safe
returns-clause-safe g c = λ m given zeroed.
    let is = is_yes _ _ _ c.report-status.ensures.reported zeroed in
    holds_safe m c.args.source.now c.in-Ok.program (c.in-Ok.ensures.answer m given) c.sources_are_annotated.ensures c.sources_are_safe.ensures (λ layered faithful. c.judge_name-answer.ensures.valid layered faithful is)

pub returns-in-Err-clause-checked : goal.returns-in-Err-clause-checked
returns-in-Err-clause-checked g c = λ m given. record {
  answer = _;
  answers = inl (record { refusal = c.in-Err.refusal; is = refl; why = c.in-Err.ensures.answer m given });
  fault = c.in-Err.ensures.fault;
  reported = c.report.ensures.reported;
}
