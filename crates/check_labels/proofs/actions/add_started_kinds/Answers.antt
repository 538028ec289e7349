use Rattle.std.proofs.Common.{refl}
use Rattle.method.specs.Labels.{spawn_kinds}
use Rattle.check_labels.proofs.Steps.{none_added, some_added}
use Rattle.check_labels.proofs.actions.add_started_kinds.Goals as goal

pub returns-in-None : goal.returns-in-None
returns-in-None c = none_added spawn_kinds _ _ c.in-None.ensures.none refl

pub returns-in_ok-add_entry_kinds-in-Some : goal.returns-in_ok-add_entry_kinds-in-Some
returns-in_ok-add_entry_kinds-in-Some c = some_added spawn_kinds _ _ _ _ c.in-Some.ensures.some c.in_ok-add_entry_kinds-in-Some.ensures
