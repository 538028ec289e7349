use Rattle.std.proofs.Common.{inl, inr, ◌∙◌}
use Rattle.vcc_io.proofs.Statuses.{no_zero}
use Rattle.vcc_cli.proofs.Checking.{holds_safe}
use Rattle.vcc_cli.proofs.Searching.{leaves_accepted, no_read_fault, searched, yes_only}
use Rattle.vcc_cli.proofs.verify.verify.Goals as goal

pub returns-in-Err-clause-verifies : goal.returns-in-Err-clause-verifies
returns-in-Err-clause-verifies g c = λ m given.
    inl (record {
      refusal = c.in-Err.refusal;
      stops = inl (c.in-Err.ensures.answer m given);
      fault = c.in-Err.ensures.fault;
      reported = c.report.ensures.reported;
      kept = c.in-Err.ensures.kept;
    })

pub returns-in-Err-clause-accepted : goal.returns-in-Err-clause-accepted
returns-in-Err-clause-accepted g c = λ m given differ zeroed. absurd (no_zero c.in-Err.refusal _ _ c.report.ensures.reported zeroed)

pub returns-in-Err-few_labels-clause-verifies : goal.returns-in-Err-few_labels-clause-verifies
returns-in-Err-few_labels-clause-verifies g c = λ m given.
    inl (record {
      refusal = c.in-Err-few_labels.refusal;
      stops = inr (c.in-Ok.program, c.in-Ok.ensures.answer m given, c.in-Err-few_labels.ensures.many);
      fault = λ is. absurd (no_read_fault c.in-Ok.program c.in-Err-few_labels.refusal c.in-Err-few_labels.ensures.many is);
      reported = c.report-in-Err-few_labels.ensures.reported;
      kept = c.in-Ok.ensures.kept;
    })

pub returns-in-Err-few_labels-clause-accepted : goal.returns-in-Err-few_labels-clause-accepted
returns-in-Err-few_labels-clause-accepted g c = λ m given differ zeroed. absurd (no_zero c.in-Err-few_labels.refusal _ _ c.report-in-Err-few_labels.ensures.reported zeroed)

pub returns-clause-verifies : goal.returns-clause-verifies
returns-clause-verifies g c = λ m given.
    inr (searched m c.args.search.source.now c.args.search.cert.now c.in-Ok.program (c.in-Ok.ensures.answer m given) _ _ _ _ _ _ _ _ _ _ _ _ c.verify-answer.result c.end-status.result
    c.in-Ok.ensures.kept c.in-Ok.ensures.writes_stay c.verify-answer.ensures.sink_never_falls c.end-status.ensures.never_falls c.verify-answer.ensures.run
    c.verify-answer.ensures.store_failed c.verify-answer.ensures.sink_failed c.end-status.ensures.ending)

pub returns-clause-accepted : goal.returns-clause-accepted
returns-clause-accepted g c = λ m given differ zeroed.
    let holds = c.in-Ok.ensures.answer m given in
    let is = yes_only c.args.search.cert.now c.verify-answer.result _ _ c.end-status.ensures.ending zeroed in
    let safe = holds_safe m c.args.search.source.now c.in-Ok.program holds c.sources_are_annotated.ensures c.sources_are_safe.ensures (λ layered faithful. c.verify-answer.ensures.valid layered faithful is) in
    leaves_accepted m c.args.search.source.now c.args.search.cert.now c.in-Ok.program holds differ safe _ _ _ _ c.verify-answer.result (c.in-Ok.ensures.kept ∙ given) is c.verify-answer.ensures.run
