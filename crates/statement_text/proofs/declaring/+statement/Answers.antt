use Rattle.std.proofs.Common.{ap, ◌∙◌, ap₂, sym, ◌++◌}
use Rattle.conditions.specs.Statements.{declares}
use Rattle.statement_text.specs.Rows.{all_declare}
use Rattle.statement_text.proofs.Vectors.{grown, grown_by, if_declares, while_declares, do_while_declares, unwrapping_declares}
use Rattle.statement_text.proofs.declaring.+statement.Goals as goal

pub add_declares-returns-in_ok-add_all_declares-in-If-2 : goal.add_declares-returns-in_ok-add_all_declares-in-If-2
add_declares-returns-in_ok-add_all_declares-in-If-2 t c =
    grown _ _ _ _ _ _ c.in_ok-add_all_declares-in-If.ensures c.in_ok-add_all_declares-in-If-2.ensures (ap declares c.in-If.is ∙ if_declares c.in-If.field-0 c.in-If.field-1 c.in-If.field-2 c.in-If.first c.in-If.second ∙ sym (ap₂ (λ u v. all_declare u ++ all_declare v) c.deref.ensures.value c.deref-in-If.ensures.value))

pub add_declares-returns-in_ok-add_all_declares-in-While : goal.add_declares-returns-in_ok-add_all_declares-in-While
add_declares-returns-in_ok-add_all_declares-in-While t c =
    grown_by _ _ _ _ c.in_ok-add_all_declares-in-While.ensures (ap declares c.in-While.is ∙ while_declares c.in-While.field-0 c.in-While.field-1 c.in-While.field-2 c.in-While.body ∙ sym (ap all_declare c.deref-in-While.ensures.value))

pub add_declares-returns-in_ok-add_all_declares-in-DoWhile : goal.add_declares-returns-in_ok-add_all_declares-in-DoWhile
add_declares-returns-in_ok-add_all_declares-in-DoWhile t c =
    grown_by _ _ _ _ c.in_ok-add_all_declares-in-DoWhile.ensures (ap declares c.in-DoWhile.is ∙ do_while_declares c.in-DoWhile.field-0 c.in-DoWhile.field-1 c.in-DoWhile.body c.in-DoWhile.field-3 c.in-DoWhile.field-4 ∙ sym (ap all_declare c.deref-in-DoWhile.ensures.value))

pub add_declares-returns-in_ok-add_all_declares-in-Unwrapping : goal.add_declares-returns-in_ok-add_all_declares-in-Unwrapping
add_declares-returns-in_ok-add_all_declares-in-Unwrapping t c =
    grown_by _ _ _ _ c.in_ok-add_all_declares-in-Unwrapping.ensures (ap declares c.in-Unwrapping.is ∙ unwrapping_declares c.in-Unwrapping.field-0 c.in-Unwrapping.field-1 c.in-Unwrapping.field-2 c.in-Unwrapping.field-3 c.in-Unwrapping.body ∙ sym (ap all_declare c.deref-in-Unwrapping.ensures.value))
