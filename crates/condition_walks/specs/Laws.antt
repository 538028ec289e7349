-- What is promised of the conditions of a program. Own.
use Rattle.std.specs.Prelude.{◌≡◌, length}
use Rattle.method.specs.declared.program.Program.{Program}
use Rattle.method.specs.Labels.{program_labels}
use Rattle.conditions.specs.Conditions.{formulas}

-- A program has as many conditions as labels, so that the condition of a label is the one at its position. It has no premise.
abbrev pub OneConditionPerLabel : Type 0
OneConditionPerLabel = (p : Program) → length (formulas p) ≡ length (program_labels p)
