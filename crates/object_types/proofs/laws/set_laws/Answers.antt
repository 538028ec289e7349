use Rattle.object_types.proofs.Members.{is_in_with, is_in_without}
use Rattle.object_types.proofs.laws.set_laws.Goals as goal

pub returns : goal.returns
returns c = record { with = is_in_with; without = is_in_without }
