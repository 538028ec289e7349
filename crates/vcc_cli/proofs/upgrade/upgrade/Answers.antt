use Rattle.std.proofs.Common.{◌≡◌, inl, inr, length, ◌∙◌, arith}
use Rattle.vcc_io.proofs.Counting.{few_held, one_per_held}
use Rattle.vcc_io.proofs.Statuses.{no_zero}
use Rattle.vcc_cli.proofs.Searching.{no_read_fault}
use Rattle.vcc_cli.proofs.Upgrading.{leaves_upgrade, rewritten}
use Rattle.vcc_cli.proofs.upgrade.upgrade.Goals as goal

pub returns-in-Err-clause-upgrades : goal.returns-in-Err-clause-upgrades
returns-in-Err-clause-upgrades g c = λ m given.
    inl (record {
      refusal = c.in-Err.refusal;
      stops = inl (inl (c.in-Err.ensures.answer m given));
      fault = c.in-Err.ensures.fault;
      reported = c.report.ensures.reported;
      kept = c.in-Err.ensures.kept;
    })

pub returns-in-Err-clause-shows : goal.returns-in-Err-clause-shows
returns-in-Err-clause-shows g c = λ m given zeroed. absurd (no_zero c.in-Err.refusal _ _ c.report.ensures.reported zeroed)

pub returns-in-Err-few_labels-clause-upgrades : goal.returns-in-Err-few_labels-clause-upgrades
returns-in-Err-few_labels-clause-upgrades g c = λ m given.
    inl (record {
      refusal = c.in-Err-few_labels.refusal;
      stops = inl (inr (c.in-Ok.program, c.in-Ok.ensures.answer m given, c.in-Err-few_labels.ensures.many));
      fault = λ is. absurd (no_read_fault c.in-Ok.program c.in-Err-few_labels.refusal c.in-Err-few_labels.ensures.many is);
      reported = c.report-in-Err-few_labels.ensures.reported;
      kept = c.in-Ok.ensures.kept;
    })

pub returns-in-Err-few_labels-clause-shows : goal.returns-in-Err-few_labels-clause-shows
returns-in-Err-few_labels-clause-shows g c = λ m given zeroed. absurd (no_zero c.in-Err-few_labels.refusal _ _ c.report-in-Err-few_labels.ensures.reported zeroed)

pub read_anew-requires : goal.read_anew-requires
read_anew-requires g c =
    let many : c.len.result ≡ length c.in-Ok-few_labels.labels.items = omega arith in
    many ∙ one_per_held c.in-Ok.program c.in-Ok-few_labels.labels.items c.in-Ok-few_labels.ensures.labels

pub returns-in-Err-read_anew-clause-upgrades : goal.returns-in-Err-read_anew-clause-upgrades
returns-in-Err-read_anew-clause-upgrades g c = λ m given.
    inl (record {
      refusal = c.in-Err-read_anew.refusal;
      stops = inr (
        c.in-Ok.program,
        c.in-Ok.ensures.answer m given,
        few_held c.in-Ok.program c.in-Ok-few_labels.labels.items _ c.in-Ok-few_labels.ensures.labels c.in-Ok-few_labels.ensures.few,
        c.in-Err-read_anew.ensures.answer m (c.in-Ok.ensures.kept ∙ given),
      );
      fault = λ is. let rose = c.in-Err-read_anew.ensures.fault is in omega (arith, rose, c.in-Ok.ensures.never_falls);
      reported = c.report-in-Err-read_anew.ensures.reported;
      kept = c.in-Err-read_anew.ensures.kept ∙ c.in-Ok.ensures.kept;
    })

pub returns-in-Err-read_anew-clause-shows : goal.returns-in-Err-read_anew-clause-shows
returns-in-Err-read_anew-clause-shows g c = λ m given zeroed. absurd (no_zero c.in-Err-read_anew.refusal _ _ c.report-in-Err-read_anew.ensures.reported zeroed)

pub returns-clause-upgrades : goal.returns-clause-upgrades
returns-clause-upgrades g c = λ m given.
    inr (rewritten m c.args.names.source.now c.args.names.cert.now c.args.names.new.now _ c.end-status.result c.in-Ok.program c.in-Ok-read_anew.anew c.deref.result.now _ _ _ _ _ _ c.write_text-written.result
    (c.in-Ok.ensures.answer m given) (c.in-Ok-read_anew.ensures.answer m (c.in-Ok.ensures.kept ∙ given)) c.deref.ensures.value
    (c.in-Ok-read_anew.ensures.writes_stay ∙ c.in-Ok.ensures.writes_stay) (c.in-Ok-read_anew.ensures.kept ∙ c.in-Ok.ensures.kept) c.write_text-written.ensures c.end-status.ensures)

pub returns-clause-shows : goal.returns-clause-shows
returns-clause-shows g c = λ m given zeroed.
    leaves_upgrade m c.args.names.source.now c.args.names.cert.now c.args.names.new.now _ c.end-status.result _ _ _ _ c.upgrade_keeps.ensures.first c.upgrade_keeps.ensures.follow given
    (rewritten m c.args.names.source.now c.args.names.cert.now c.args.names.new.now _ c.end-status.result c.in-Ok.program c.in-Ok-read_anew.anew c.deref.result.now _ _ _ _ _ _ c.write_text-written.result
    (c.in-Ok.ensures.answer m given) (c.in-Ok-read_anew.ensures.answer m (c.in-Ok.ensures.kept ∙ given)) c.deref.ensures.value
    (c.in-Ok-read_anew.ensures.writes_stay ∙ c.in-Ok.ensures.writes_stay) (c.in-Ok-read_anew.ensures.kept ∙ c.in-Ok.ensures.kept) c.write_text-written.ensures c.end-status.ensures) zeroed
