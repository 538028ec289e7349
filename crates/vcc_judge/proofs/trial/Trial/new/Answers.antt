use Rattle.std.proofs.Common.{refl}
use Rattle.std.proofs.lemmas.Result.{err_from_is_err_and}
use Rattle.vcc_judge.proofs.Trials.{tried_none, unready_trial}
use Rattle.vcc_judge.proofs.trial.Trial.new.Goals as goal

pub returns-in_err-room : goal.returns-in_err-room
returns-in_err-room c =
    let q = err_from_is_err_and c.from_residual.result c.from_residual.ensures.1 in
    rw (q.1, q.2) (unready_trial c.args.theory c.args.lemmas.now _ c.in_err-room.ensures)

pub returns : goal.returns
returns c = (tried_none c.args.theory.program.now c.args.lemmas.now _ refl refl (c.new-conditions.ensures c.args.theory.program.now), c.in_ok-room.ensures)
