use Rattle.std.proofs.Common.{ap, ap₂, ◌∙◌, sym, ◌++◌}
use Rattle.method.specs.Labels.{on_line, kinds, inner_labels, inner_list_labels}
use Rattle.check_labels.proofs.Rows.{inner_if}
use Rattle.check_labels.proofs.Steps.{three_parts}
use Rattle.check_labels.proofs.inner.+inner.Goals as goal

pub add_inner_labels-returns-in_ok-add_block_labels-in-InsideIf-2 : goal.add_inner_labels-returns-in_ok-add_block_labels-in-InsideIf-2
add_inner_labels-returns-in_ok-add_block_labels-in-InsideIf-2 t c =
    let p = c.args.program.now in
    let i = c.in-InsideIf in
    three_parts _ _ _ _ _ _ _ _ c.in_ok-add_test_labels-in-InsideIf.ensures c.in_ok-add_block_labels-in-InsideIf.ensures c.in_ok-add_block_labels-in-InsideIf-2.ensures
    (ap (inner_labels p) i.is ∙ inner_if p i.line i.test i.first i.second ∙ sym (ap₂ (λ u v. on_line i.line (kinds i.test) ++ inner_list_labels p u ++ inner_list_labels p v) c.deref.ensures.value c.deref-in-InsideIf.ensures.value))
