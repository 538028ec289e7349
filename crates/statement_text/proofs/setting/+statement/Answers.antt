use Rattle.std.proofs.Common.{ap, ◌∙◌, ap₂, sym, ◌++◌}
use Rattle.method.specs.Text.{sets}
use Rattle.statement_text.specs.Rows.{all_set}
use Rattle.statement_text.proofs.Vectors.{grown, grown_by, if_sets, while_sets, do_while_sets, unwrapping_sets}
use Rattle.statement_text.proofs.setting.+statement.Goals as goal

pub add_sets-returns-in_ok-add_all_sets-in-If-2 : goal.add_sets-returns-in_ok-add_all_sets-in-If-2
add_sets-returns-in_ok-add_all_sets-in-If-2 t c =
    grown _ _ _ _ _ _ c.in_ok-add_all_sets-in-If.ensures c.in_ok-add_all_sets-in-If-2.ensures (ap sets c.in-If.is ∙ if_sets c.in-If.field-0 c.in-If.field-1 c.in-If.field-2 c.in-If.first c.in-If.second ∙ sym (ap₂ (λ u v. all_set u ++ all_set v) c.deref.ensures.value c.deref-in-If.ensures.value))

pub add_sets-returns-in_ok-add_all_sets-in-While : goal.add_sets-returns-in_ok-add_all_sets-in-While
add_sets-returns-in_ok-add_all_sets-in-While t c =
    grown_by _ _ _ _ c.in_ok-add_all_sets-in-While.ensures (ap sets c.in-While.is ∙ while_sets c.in-While.field-0 c.in-While.field-1 c.in-While.field-2 c.in-While.body ∙ sym (ap all_set c.deref-in-While.ensures.value))

pub add_sets-returns-in_ok-add_all_sets-in-DoWhile : goal.add_sets-returns-in_ok-add_all_sets-in-DoWhile
add_sets-returns-in_ok-add_all_sets-in-DoWhile t c =
    grown_by _ _ _ _ c.in_ok-add_all_sets-in-DoWhile.ensures (ap sets c.in-DoWhile.is ∙ do_while_sets c.in-DoWhile.field-0 c.in-DoWhile.field-1 c.in-DoWhile.body c.in-DoWhile.field-3 c.in-DoWhile.field-4 ∙ sym (ap all_set c.deref-in-DoWhile.ensures.value))

pub add_sets-returns-in_ok-add_all_sets-in-Unwrapping : goal.add_sets-returns-in_ok-add_all_sets-in-Unwrapping
add_sets-returns-in_ok-add_all_sets-in-Unwrapping t c =
    grown_by _ _ _ _ c.in_ok-add_all_sets-in-Unwrapping.ensures (ap sets c.in-Unwrapping.is ∙ unwrapping_sets c.in-Unwrapping.field-0 c.in-Unwrapping.field-1 c.in-Unwrapping.field-2 c.in-Unwrapping.field-3 c.in-Unwrapping.body ∙ sym (ap all_set c.deref-in-Unwrapping.ensures.value))
