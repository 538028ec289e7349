use Rattle.std.proofs.Common.{◌≡◌, ◌∙◌, refl, sym, length, arith}
use Rattle.vcc_judge.proofs.Verified.{valid_of}
use Rattle.vcc_io.proofs.Counting.{few_held, one_per_held}
use Rattle.vcc_io.proofs.Sessions.{no_verdict, some_verdict}
use Rattle.vcc_cli.proofs.Checking.{judged_answer, stops_at_blocks, stops_at_certificate}
use Rattle.vcc_cli.proofs.check.judge_name.Goals as goal

pub try_certificate-requires-clause-theory : goal.try_certificate-requires-clause-theory
try_certificate-requires-clause-theory g c = record { program = refl; language = c.in-Ok-program_language.ensures }

pub returns-in-Err-try_certificate-clause-answer : goal.returns-in-Err-try_certificate-clause-answer
returns-in-Err-try_certificate-clause-answer g c = λ m given.
    stops_at_certificate m c.args.name.now c.args.program.now (few_held c.args.program.now c.in-Ok.labels.items _ c.in-Ok.ensures.labels c.in-Ok.ensures.few) c.in-Err-try_certificate.refusal (c.in-Err-try_certificate.ensures.answer m given)

pub returns-in_default-verdict-clause-answer : goal.returns-in_default-verdict-clause-answer
returns-in_default-verdict-clause-answer g c = λ m given.
    let h = c.in-Ok-try_certificate.ensures.answer m given in
    let labels : c.len-conditions.result ≡ length c.in-Ok.labels.items = omega arith in
    let each = labels ∙ one_per_held c.args.program.now c.in-Ok.labels.items c.in-Ok.ensures.labels in
    let differ = no_verdict c.args.program.now (h.proofs).lemmas (h.proofs).blocks _ c.in_default-verdict.not-Some h.took.outcome in
    stops_at_blocks m c.args.name.now c.args.program.now (few_held c.args.program.now c.in-Ok.labels.items _ c.in-Ok.ensures.labels c.in-Ok.ensures.few) h.proofs
    _ c.len-conditions.result h.holds h.took.count each (λ same. differ (sym h.took.count ∙ same ∙ each))

pub returns-clause-answer : goal.returns-clause-answer
returns-clause-answer g c = λ m given.
    let h = c.in-Ok-try_certificate.ensures.answer m given in
    let both = some_verdict c.args.program.now (h.proofs).lemmas (h.proofs).blocks _ c.in-Some.outcome c.in-Some.is h.took.outcome in
    judged_answer m c.args.name.now c.args.program.now (few_held c.args.program.now c.in-Ok.labels.items _ c.in-Ok.ensures.labels c.in-Ok.ensures.few) h.proofs
    (h.proofs).lemmas (h.proofs).blocks c.verdict_of.result h.holds refl refl both.0 (c.verdict_of.ensures.judged (h.proofs).lemmas (h.proofs).blocks both.1)

pub returns-clause-valid : goal.returns-clause-valid
returns-clause-valid g c = λ layered faithful is.
    let (lemmas, blocks, took) = c.in-Ok-try_certificate.ensures.took in
    let both = some_verdict c.args.program.now lemmas blocks _ c.in-Some.outcome c.in-Some.is took.outcome in
    valid_of c.args.program.now lemmas blocks c.in-Some.outcome both.1 layered faithful (c.verdict_of.ensures.yes is)

pub returns-clause-fault : goal.returns-clause-fault
returns-clause-fault g c = λ is. absurd (c.verdict_of.ensures.no_read is)
