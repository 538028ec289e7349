use Rattle.object_types.proofs.Fresh.{fresh_unique, fresh_determined, support_covers}
use Rattle.object_types.proofs.laws.fresh_laws.Goals as goal

pub returns : goal.returns
returns c = record { unique = fresh_unique; determined = fresh_determined; finite = support_covers }
