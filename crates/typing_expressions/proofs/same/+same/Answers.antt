use Rattle.std.proofs.Common.{sym, ap, ◌∙◌, arith, Bool, ◌&&◌, ◌==◌}
use Rattle.std.proofs.lemmas.Bool.{eq-eqb}
use Rattle.c_syntax.specs.Expressions.{Exp}
use Rattle.c_syntax.specs.Grammar.{exps_of}
use Rattle.c_syntax.specs.Views.{exp, exps}
use Rattle.typing_spec.specs.Trees as trees
use Rattle.typing_expressions.proofs.Rows.{several, same_short, same_end, stop_if}
use Rattle.typing_expressions.proofs.same.+same.Goals as goal

pub same_tree-returns-then-list_word_number : goal.same_tree-returns-then-list_word_number
same_tree-returns-then-list_word_number t c =
    let s = c.in-Several in
    let o = c.in-Several-other in
    let xs = c.deref-then-list_word_number.result.now in
    let ys = c.deref-then-list_word_number-2.result.now in
    let left = several c.args.left.now s.field-0 s.word s.arguments xs s.is c.deref-then-list_word_number.ensures.value in
    let right = several c.bare-other.result.now o.field-0 o.told o.same ys o.is c.deref-then-list_word_number-2.ensures.value in
    let row = trees.same_row (exps_of (exps xs)) in
    let word = eq-eqb (trees.list_word_number s.word) (trees.list_word_number o.told) (sym c.list_word_number.ensures ∙ (c.if-list_word_number.true ∙ c.list_word_number-in-Several-other.ensures)) in
    c.same_row.ensures ∙ sym (ap (λ (y : Exp). trees.same_tree y (exp c.args.right.now)) left
    ∙ (ap (trees.if_several (λ v zs. (trees.list_word_number s.word == trees.list_word_number v) && row zs)) (sym c.bare-other.ensures ∙ right) ∙ ap (λ (b : Bool). b && row (exps_of (exps ys))) word))

pub same_row-returns-in_default : goal.same_row-returns-in_default
same_row-returns-in_default t c = sym (c.loop-x.invariant ∙ same_short c.args.left.now c.loop-x.others.now c.loop-x.x-index c.x-item.result c.loop-x-test.true c.x-item.is c.in_default.ensures.cases)

pub same_row-returns : goal.same_row-returns
same_row-returns t c = c.is_empty.ensures ∙ (stop_if c.loop-x.others.now ∙ sym (c.loop-x.invariant ∙ same_end c.args.left.now c.loop-x.others.now c.loop-x.x-index (omega arith)))
