use Rattle.safety_law.proofs.Respect.{thread_modular_law}
use Rattle.safety_law.proofs.laws.thread_modular_law.Goals as goal

pub returns : goal.returns
returns c = thread_modular_law
