use Rattle.std.proofs.Common.{refl}
use Rattle.condition_formulas.proofs.Rows.{none}
use Rattle.condition_walk.proofs.entry.outside_spot.Goals as goal

pub returns-clause-spot : goal.returns-clause-spot
returns-clause-spot c = λ ts h fs ws hh hfs hws. record { entry_is = hh; writes_are = hfs; args_are = hws; inside_is = refl; listed_are = none }
