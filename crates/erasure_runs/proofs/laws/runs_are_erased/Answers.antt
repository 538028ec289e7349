use Rattle.erasure_runs.proofs.Back.{runs_are_erased}
use Rattle.erasure_runs.proofs.laws.runs_are_erased.Goals as goal

pub returns : goal.returns
returns c = runs_are_erased
