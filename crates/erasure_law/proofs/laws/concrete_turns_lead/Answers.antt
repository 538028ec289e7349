use Rattle.erasure_law.proofs.Reached.{concrete_turns_lead}
use Rattle.erasure_law.proofs.laws.concrete_turns_lead.Goals as goal

pub returns : goal.returns
returns c = concrete_turns_lead
