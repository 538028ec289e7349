use Rattle.grain_law.proofs.Converse.{steps_are_fine_steps, runs_are_fine_runs}
use Rattle.grain_law.proofs.laws.machine_in_fine_steps.Goals as goal

pub returns : goal.returns
returns c = record { steps = steps_are_fine_steps; runs = runs_are_fine_runs }
