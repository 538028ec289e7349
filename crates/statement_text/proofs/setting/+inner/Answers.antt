use Rattle.std.proofs.Common.{ap, ◌∙◌, ap₂, sym, ◌++◌}
use Rattle.method.specs.Text.{inner_sets, inner_list_sets}
use Rattle.statement_text.proofs.Vectors.{grown, inner_if_sets}
use Rattle.statement_text.proofs.setting.+inner.Goals as goal

pub add_inner_sets-returns-in_ok-add_block_sets-in-InsideIf-2 : goal.add_inner_sets-returns-in_ok-add_block_sets-in-InsideIf-2
add_inner_sets-returns-in_ok-add_block_sets-in-InsideIf-2 t c =
    grown _ _ _ _ _ _ c.in_ok-add_block_sets-in-InsideIf.ensures c.in_ok-add_block_sets-in-InsideIf-2.ensures (ap inner_sets c.in-InsideIf.is ∙ inner_if_sets c.in-InsideIf.field-0 c.in-InsideIf.field-1 c.in-InsideIf.first c.in-InsideIf.second ∙ sym (ap₂ (λ u v. inner_list_sets u ++ inner_list_sets v) c.deref.ensures.value c.deref-in-InsideIf.ensures.value))
