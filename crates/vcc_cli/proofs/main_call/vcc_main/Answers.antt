use Rattle.std.proofs.Common.{inl, inr}
use Rattle.vcc_words.specs.Words.{texts}
use Rattle.vcc_io.specs.declared.refusal.Refusal.TheVariants.{OutOfMemory, Usage}
use Rattle.vcc_io.proofs.Statuses.{no_zero}
use Rattle.vcc_cli.proofs.Commands.{accepted_command, complete_command, exact_command, generated_command, is_command, is_none, kept_command, safe_command, upgraded_command, verified_command, wanting_complete}
use Rattle.vcc_cli.proofs.Generating.{refusal_shows}
use Rattle.vcc_cli.proofs.main_call.vcc_main.Goals as goal

-- ---- a command

pub returns-in-Ok-Some-clause-safe : goal.returns-in-Ok-Some-clause-safe
returns-in-Ok-Some-clause-safe g c = λ m given source cert check zeroed.
    let command = c.in-Ok-Some.command in
    safe_command m (texts c.args.words.now) _ _ _ _ command _ source cert (is_command _ _ command c.in-Ok-Some.field-0-is c.in-Ok-Some.ensures) (c.run_command-status.ensures.ends m given) check zeroed (c.run_command-status.ensures.shows m given zeroed)

pub returns-in-Ok-Some-clause-accepted : goal.returns-in-Ok-Some-clause-accepted
returns-in-Ok-Some-clause-accepted g c = λ m given source cert check zeroed.
    let command = c.in-Ok-Some.command in
    accepted_command m (texts c.args.words.now) _ _ _ _ command source cert (is_command _ _ command c.in-Ok-Some.field-0-is c.in-Ok-Some.ensures) (c.run_command-status.ensures.ends m given) check zeroed

pub returns-in-Ok-Some-clause-complete : goal.returns-in-Ok-Some-clause-complete
returns-in-Ok-Some-clause-complete g c = λ m given source cert accepted check no_read no_write.
    let command = c.in-Ok-Some.command in
    complete_command m (texts c.args.words.now) _ _ _ _ command source cert (is_command _ _ command c.in-Ok-Some.field-0-is c.in-Ok-Some.ensures) (c.run_command-status.ensures.ends m given) accepted check no_read no_write

pub returns-in-Ok-Some-clause-verified : goal.returns-in-Ok-Some-clause-verified
returns-in-Ok-Some-clause-verified g c = λ m given source cert leaves rounds verify zeroed.
    let command = c.in-Ok-Some.command in
    verified_command m (texts c.args.words.now) command _ source cert leaves rounds (is_command _ _ command c.in-Ok-Some.field-0-is c.in-Ok-Some.ensures) verify (c.run_command-status.ensures.shows m given zeroed)

pub returns-in-Ok-Some-clause-generated : goal.returns-in-Ok-Some-clause-generated
returns-in-Ok-Some-clause-generated g c = λ copies gen.
    let command = c.in-Ok-Some.command in
    generated_command (texts c.args.words.now) copies _ _ command (is_command _ _ command c.in-Ok-Some.field-0-is c.in-Ok-Some.ensures) gen c.run_command-status.ensures.generates

pub returns-in-Ok-Some-clause-upgraded : goal.returns-in-Ok-Some-clause-upgraded
returns-in-Ok-Some-clause-upgraded g c = λ m given source cert new upgrade zeroed.
    let command = c.in-Ok-Some.command in
    upgraded_command m (texts c.args.words.now) command _ source cert new (is_command _ _ command c.in-Ok-Some.field-0-is c.in-Ok-Some.ensures) upgrade (c.run_command-status.ensures.shows m given zeroed)

pub returns-in-Ok-Some-clause-exact : goal.returns-in-Ok-Some-clause-exact
returns-in-Ok-Some-clause-exact g c = λ m given.
    let command = c.in-Ok-Some.command in
    exact_command m (texts c.args.words.now) _ _ _ _ command (is_command _ _ command c.in-Ok-Some.field-0-is c.in-Ok-Some.ensures) (c.run_command-status.ensures.ends m given)

pub returns-in-Ok-Some-clause-kept : goal.returns-in-Ok-Some-clause-kept
returns-in-Ok-Some-clause-kept g c = λ no_verify no_upgrade.
    let command = c.in-Ok-Some.command in
    kept_command (texts c.args.words.now) _ _ no_verify no_upgrade command (is_command _ _ command c.in-Ok-Some.field-0-is c.in-Ok-Some.ensures) c.run_command-status.ensures.keeps

-- ---- none

pub returns-in-Ok-None-clause-safe : goal.returns-in-Ok-None-clause-safe
returns-in-Ok-None-clause-safe g c = λ m given source cert check zeroed. absurd (no_zero Usage _ _ c.report-status.ensures.reported zeroed)

pub returns-in-Ok-None-clause-accepted : goal.returns-in-Ok-None-clause-accepted
returns-in-Ok-None-clause-accepted g c = λ m given source cert check zeroed. absurd (no_zero Usage _ _ c.report-status.ensures.reported zeroed)

pub returns-in-Ok-None-clause-complete : goal.returns-in-Ok-None-clause-complete
returns-in-Ok-None-clause-complete g c = λ m given source cert accepted check no_read no_write.
    absurd ((is_none (texts c.args.words.now) _ c.in-Ok-None.field-0-is c.in-Ok-None.ensures).no_check check.source_name check.cert_name check.command)

pub returns-in-Ok-None-clause-verified : goal.returns-in-Ok-None-clause-verified
returns-in-Ok-None-clause-verified g c = λ m given source cert leaves rounds verify zeroed. absurd (no_zero Usage _ _ c.report-status.ensures.reported zeroed)

pub returns-in-Ok-None-clause-generated : goal.returns-in-Ok-None-clause-generated
returns-in-Ok-None-clause-generated g c = λ copies gen. refusal_shows copies Usage _ _ c.report-status.ensures.reported

pub returns-in-Ok-None-clause-upgraded : goal.returns-in-Ok-None-clause-upgraded
returns-in-Ok-None-clause-upgraded g c = λ m given source cert new upgrade zeroed. absurd (no_zero Usage _ _ c.report-status.ensures.reported zeroed)

pub returns-in-Ok-None-clause-exact : goal.returns-in-Ok-None-clause-exact
returns-in-Ok-None-clause-exact g c = λ m given.
    inl (record { none = is_none (texts c.args.words.now) _ c.in-Ok-None.field-0-is c.in-Ok-None.ensures; reported = c.report-status.ensures.reported })

-- ---- want of memory

pub returns-in-Err-clause-safe : goal.returns-in-Err-clause-safe
returns-in-Err-clause-safe g c = λ m given source cert check zeroed. absurd (no_zero OutOfMemory _ _ c.report-status-in-Err.ensures.reported zeroed)

pub returns-in-Err-clause-accepted : goal.returns-in-Err-clause-accepted
returns-in-Err-clause-accepted g c = λ m given source cert check zeroed. absurd (no_zero OutOfMemory _ _ c.report-status-in-Err.ensures.reported zeroed)

pub returns-in-Err-clause-complete : goal.returns-in-Err-clause-complete
returns-in-Err-clause-complete g c = λ m given source cert accepted check no_read no_write. wanting_complete _ _ c.report-status-in-Err.ensures.reported no_write

pub returns-in-Err-clause-verified : goal.returns-in-Err-clause-verified
returns-in-Err-clause-verified g c = λ m given source cert leaves rounds verify zeroed. absurd (no_zero OutOfMemory _ _ c.report-status-in-Err.ensures.reported zeroed)

pub returns-in-Err-clause-generated : goal.returns-in-Err-clause-generated
returns-in-Err-clause-generated g c = λ copies gen. refusal_shows copies OutOfMemory _ _ c.report-status-in-Err.ensures.reported

pub returns-in-Err-clause-upgraded : goal.returns-in-Err-clause-upgraded
returns-in-Err-clause-upgraded g c = λ m given source cert new upgrade zeroed. absurd (no_zero OutOfMemory _ _ c.report-status-in-Err.ensures.reported zeroed)

pub returns-in-Err-clause-exact : goal.returns-in-Err-clause-exact
returns-in-Err-clause-exact g c = λ m given. inr (inr (inr (inr (inr (inr c.report-status-in-Err.ensures.reported)))))
