use Rattle.std.proofs.lemmas.Result.{err_from_is_err_and}
use Rattle.ref_machine.proofs.Stepping.{steps, stops}
use Rattle.ref_machine.proofs.step.take.Goals as goal

pub returns-clause-answer : goal.returns-clause-answer
returns-clause-answer c s is =
    let l = rw (c.thread.ensures, c.choices.ensures) at (c.in_ok-plan.ensures.plan s is) in
    steps c.args.program.now s c.args.event.now c.in_ok-plan.plan c.args.state.now c.commit.new.state is c.in_ok-commit.ensures.ok l

pub returns-in_err-plan-clause-answer : goal.returns-in_err-plan-clause-answer
returns-in_err-plan-clause-answer c s is =
    let e = err_from_is_err_and c.from_residual.result c.from_residual.ensures.1 in
    let h = rw (c.thread.ensures, c.choices.ensures) at (c.in_err-plan.ensures.plan s is) in
    rw (e.1, e.2) (stops c.args.program.now s c.args.event.now c.args.state.now c.in_err-plan.field-0.0 h)
