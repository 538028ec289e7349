use Rattle.race_law.proofs.Law.{counter_is_race_free}
use Rattle.race_law.proofs.laws.counter_is_race_free.Goals as goal

pub returns : goal.returns
returns c = counter_is_race_free
