use Rattle.axiom_parameters.proofs.Instances.{instance_by_trees, arguments_have_sorts}
use Rattle.axiom_parameters.proofs.laws.instances_by_trees.Goals as goal

pub returns : goal.returns
returns c = record { same = instance_by_trees; sorted = arguments_have_sorts }
