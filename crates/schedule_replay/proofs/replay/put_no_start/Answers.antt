use Rattle.schedule_replay.proofs.Starting.{on_bad_args, on_wide_start, on_false_start, false_start_exit}
use Rattle.schedule_replay.proofs.replay.put_no_start.Goals as goal

pub returns-in-BadArgs-clause-answer : goal.returns-in-BadArgs-clause-answer
returns-in-BadArgs-clause-answer g c = on_bad_args c.args.fault _ c.in-BadArgs.is

pub returns-in_err-put_fault-in-Requires-clause-answer : goal.returns-in_err-put_fault-in-Requires-clause-answer
returns-in_err-put_fault-in-Requires-clause-answer g c = false_start_exit c.from_residual.result _ c.args.fault c.in-Requires.line _ _ c.in-Requires.is c.from_residual.ensures.1 c.in_err-put_fault-in-Requires.ensures.err

pub returns-in_ok-put_fault-in-Requires-clause-answer : goal.returns-in_ok-put_fault-in-Requires-clause-answer
returns-in_ok-put_fault-in-Requires-clause-answer g c = on_false_start c.args.fault c.in-Requires.line _ _ c.in-Requires.is c.in_ok-put_fault-in-Requires.ensures.ok

pub returns-in-Wide-clause-answer : goal.returns-in-Wide-clause-answer
returns-in-Wide-clause-answer g c = on_wide_start c.args.fault c.in-Wide.wide _ c.in-Wide.is
