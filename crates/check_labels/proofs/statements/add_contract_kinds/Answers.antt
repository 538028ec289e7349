use Rattle.std.proofs.Common.{refl}
use Rattle.method.specs.declared.program.CheckKind.TheVariants.{Requires, Writes}
use Rattle.method.specs.Labels.{contract_kinds}
use Rattle.check_labels.proofs.Steps.{none_added, some_added}
use Rattle.check_labels.proofs.statements.add_contract_kinds.Goals as goal

pub returns-in-None : goal.returns-in-None
returns-in-None c = none_added (contract_kinds Requires Writes) _ _ c.in-None.ensures.none refl

pub returns-in_ok-add_callee_kinds-in-Some : goal.returns-in_ok-add_callee_kinds-in-Some
returns-in_ok-add_callee_kinds-in-Some c = some_added (contract_kinds Requires Writes) _ _ _ _ c.in-Some.ensures.some c.in_ok-add_callee_kinds-in-Some.ensures
