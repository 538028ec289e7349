use Rattle.std.proofs.Common.{refl}
use Rattle.method.specs.Labels.{struct_or_none}
use Rattle.check_labels.proofs.Steps.{none_added, some_added}
use Rattle.check_labels.proofs.labels.add_struct.Goals as goal

pub returns-in-None : goal.returns-in-None
returns-in-None c = none_added struct_or_none _ _ c.in-None.ensures.none refl

pub returns-in_ok-add_struct_labels-in-Some : goal.returns-in_ok-add_struct_labels-in-Some
returns-in_ok-add_struct_labels-in-Some c = some_added struct_or_none _ _ _ _ c.in-Some.ensures.some c.in_ok-add_struct_labels-in-Some.ensures
