use Rattle.erasure_law.proofs.Reached.{concrete_steps_are_safe}
use Rattle.erasure_law.proofs.laws.concrete_steps_are_safe.Goals as goal

pub returns : goal.returns
returns c = concrete_steps_are_safe
