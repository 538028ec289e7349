use Rattle.ownership.proofs.Actions.{wrap_closes, unwrap_opens, join_gives, leave_takes}
use Rattle.ownership.proofs.laws.effect_laws.Goals as goal

pub returns : goal.returns
returns c = record { wrap = wrap_closes; unwrap = unwrap_opens; join = join_gives; leave = leave_takes }
