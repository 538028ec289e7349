use Rattle.axiom_rows.proofs.Computed.{none_is_made, numbers_apart, lock_instances, bag_instances}
use Rattle.axiom_rows.proofs.laws.instances_are_these.Goals as goal

pub returns : goal.returns
returns c = record { none = none_is_made; apart = numbers_apart; lock = lock_instances; bag = bag_instances }
