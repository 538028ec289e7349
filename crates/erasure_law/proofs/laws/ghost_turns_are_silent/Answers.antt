use Rattle.erasure_law.proofs.Turns.{ghost_turns_are_silent}
use Rattle.erasure_law.proofs.laws.ghost_turns_are_silent.Goals as goal

pub returns : goal.returns
returns c = ghost_turns_are_silent
