use Rattle.std.proofs.Common.{refl}
use Rattle.condition_walk.proofs.items.add_function_path.Goals as goal

pub returns : goal.returns
returns c = record { path = _; went = c.in_ok-run.ensures.goes; conditions = refl }
