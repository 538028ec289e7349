-- The columns of the code are those of a program's heaps. Own.
use Rattle.term_meaning.specs.Columns as c
use Rattle.axiom_steps.specs.declared.steps.Column.{Column}
use Rattle.axiom_steps.specs.declared.steps.Column.TheVariants as code

-- the column
abbrev pub seen : Column → c.Column
seen code.Modes = c.Modes
seen code.Owners = c.Owners
seen code.Counts = c.Counts
seen code.OwnedSets = c.OwnedSets
seen code.ClaimedSets = c.ClaimedSets
seen (code.Field n) = c.Field n
seen (code.Shape n) = c.Shape n
