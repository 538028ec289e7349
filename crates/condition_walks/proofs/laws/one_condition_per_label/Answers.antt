use Rattle.condition_walks.proofs.LabelSizes.{one_condition_per_label}
use Rattle.condition_walks.proofs.laws.one_condition_per_label.Goals as goal

pub returns : goal.returns
returns c = one_condition_per_label
