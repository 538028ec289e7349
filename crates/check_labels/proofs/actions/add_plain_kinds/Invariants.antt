use Rattle.std.proofs.Common.{◌≡◌, ◌++◌, drop}
use Rattle.std.proofs.Common.{replicate}
use Rattle.method.specs.Actions.{plain_listed}
use Rattle.method.specs.declared.program.CheckKind.TheVariants.{Invariant}
use Rattle.check_labels.proofs.actions.add_plain_kinds.Given as goal

abbrev pub invariant-loop-entry : goal.invariant-loop-entry
invariant-loop-entry l = l.kinds.items ++ replicate (plain_listed (drop l.entry-index l.listed)) Invariant ≡ l.fn.kinds.items ++ replicate (plain_listed l.listed) Invariant
