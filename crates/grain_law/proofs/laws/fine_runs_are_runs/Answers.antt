use Rattle.grain_law.proofs.Law.{fine_runs_are_runs}
use Rattle.grain_law.proofs.laws.fine_runs_are_runs.Goals as goal

pub returns : goal.returns
returns c = record { states = fine_runs_are_runs }
