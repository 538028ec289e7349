use Rattle.race_law.proofs.Law.{safe_is_race_free}
use Rattle.race_law.proofs.laws.safe_is_race_free.Goals as goal

pub returns : goal.returns
returns c = record { race_free = safe_is_race_free }
