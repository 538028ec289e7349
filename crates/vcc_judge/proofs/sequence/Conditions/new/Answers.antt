use Rattle.std.proofs.Common.{refl}
use Rattle.vcc_judge.proofs.Remaining.{all_remain}
use Rattle.vcc_judge.proofs.sequence.Conditions.new.Goals as goal

pub returns : goal.returns
returns c = all_remain _ c.none.ensures refl
