use Rattle.std.proofs.Common.{ap, ◌∙◌, ℕ, List, slice_get}
use Rattle.axiom_instances.specs.Terms.{is_set_column}
use Rattle.term_meaning.specs.Meaning.{column_at}
use Rattle.rule_instances.proofs.Heaps.{of_set, of_no_set, of_nothing}
use Rattle.rule_instances.proofs.clean.reads_clean_set.Goals as goal

pub returns-then-not-is_set_column : goal.returns-then-not-is_set_column
returns-then-not-is_set_column c = λ fs all. of_no_set (column_at c.args.program.now c.args.node.now.index) c.args.program.now fs (c.is_set_column.ensures ∙ ap is_set_column c.column_of_node-column.ensures) c.if-not-is_set_column.true

pub returns-in_default : goal.returns-in_default
returns-in_default c = λ fs all. of_nothing c.args.program.now fs (column_at c.args.program.now c.args.node.now.index) all (c.in_default.ensures ∙ ap (λ (xs : List ℕ). slice_get xs 0) c.numbers.ensures)

pub returns : goal.returns
returns c = λ fs all. of_set (column_at c.args.program.now c.args.node.now.index) c.args.program.now fs all (c.is_set_column.ensures ∙ ap is_set_column c.column_of_node-column.ensures) c.if-not-is_set_column.false (c.in-Some.ensures ∙ ap (λ (xs : List ℕ). slice_get xs 0) c.numbers.ensures) c.is_clean.ensures
