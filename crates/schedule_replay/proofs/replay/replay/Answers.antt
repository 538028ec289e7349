use Rattle.schedule_replay.proofs.Starting.{on_start, on_no_start}
use Rattle.schedule_replay.proofs.Exhausting.{replay_runs_out}
use Rattle.schedule_replay.proofs.replay.replay.Goals as goal

pub returns-in-Ok-clause-answer : goal.returns-in-Ok-clause-answer
returns-in-Ok-clause-answer g c =
    on_start c.args.program.now c.args.schedule.now c.in-Ok.state c.replay_events.result _ _ c.empty.result c.arguments.result.now c.events.result.now c.empty.ensures c.arguments.ensures c.events.ensures c.in-Ok.ensures.ok c.replay_events.ensures.answer

pub returns-in-Err-clause-answer : goal.returns-in-Err-clause-answer
returns-in-Err-clause-answer g c =
    on_no_start c.args.program.now c.args.schedule.now c.in-Err.fault c.put_no_start.result _ _ c.empty.result c.arguments.result.now c.empty.ensures c.arguments.ensures c.in-Err.ensures.err c.put_no_start.ensures.answer

pub returns-in-Ok-clause-exhausted : goal.returns-in-Ok-clause-exhausted
returns-in-Ok-clause-exhausted g c exhausted =
    replay_runs_out c.args.program.now c.args.schedule.now c.in-Ok.state c.empty.result c.arguments.result.now c.events.result.now c.empty.ensures c.arguments.ensures c.events.ensures c.in-Ok.ensures.ok (c.replay_events.ensures.exhausted exhausted)
