-- Labels in code. Own.
use Rattle.std.specs.Prelude.{List, map, flat_map}
use Rattle.method.specs.declared.program.Item.{Item}
use Rattle.method.specs.declared.program.Program.{Program}
use Rattle.method.specs.Labels as spec
use Rattle.check_labels.specs.declared.labels.ProgramLabel.{ProgramLabel}
use Rattle.check_labels.specs.declared.lines.Label.{Label}

-- the check of a function that the code's is
abbrev pub check_of : Label → spec.Label
check_of l = record { kind = l.kind; line = l.line }

abbrev pub checks_of : List Label → List spec.Label
checks_of ls = map check_of ls

-- the label that the code's is
abbrev pub label_of : ProgramLabel → spec.ProgramLabel
label_of l = record { item = l.item; ordinal = l.ordinal; check = record { kind = l.kind; line = l.line } }

abbrev pub labels_of : List ProgramLabel → List spec.ProgramLabel
labels_of ls = map label_of ls

-- the labels of these items
abbrev pub items_labels : Program → List Item → List spec.ProgramLabel
items_labels p is = flat_map (λ i. spec.numbered i 1 (spec.item_labels p i)) is
