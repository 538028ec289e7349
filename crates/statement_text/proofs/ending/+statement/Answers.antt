use Rattle.std.proofs.Common.{ap, ◌∙◌, sym}
use Rattle.conditions.specs.Statements.{returns}
use Rattle.statement_text.specs.Rows.{one_returns}
use Rattle.statement_text.proofs.Vectors.{if_returns, do_while_returns, unwrapping_returns, both_return, first_goes_on}
use Rattle.statement_text.proofs.ending.+statement.Goals as goal

pub returns-returns-then-any_returns : goal.returns-returns-then-any_returns
returns-returns-then-any_returns t c =
    c.any_returns-then-any_returns.ensures ∙ ap one_returns c.deref-then-any_returns.ensures.value ∙ sym (ap returns c.in-If.is ∙ if_returns c.in-If.field-0 c.in-If.field-1 c.in-If.field-2 c.in-If.first c.in-If.second ∙ both_return _ _ (sym (ap one_returns c.deref.ensures.value) ∙ sym c.any_returns.ensures ∙ c.if-any_returns.true))

pub returns-returns-else-any_returns : goal.returns-returns-else-any_returns
returns-returns-else-any_returns t c =
    c.if-any_returns.false ∙ sym (ap returns c.in-If.is ∙ if_returns c.in-If.field-0 c.in-If.field-1 c.in-If.field-2 c.in-If.first c.in-If.second ∙ first_goes_on _ _ (sym (ap one_returns c.deref.ensures.value) ∙ sym c.any_returns.ensures ∙ c.if-any_returns.false))

pub returns-returns-in-DoWhile : goal.returns-returns-in-DoWhile
returns-returns-in-DoWhile t c = c.any_returns-in-DoWhile.ensures ∙ sym (ap returns c.in-DoWhile.is ∙ do_while_returns c.in-DoWhile.field-0 c.in-DoWhile.field-1 c.in-DoWhile.body c.in-DoWhile.field-3 c.in-DoWhile.field-4 ∙ sym (ap one_returns c.deref-in-DoWhile.ensures.value))

pub returns-returns-in-Unwrapping : goal.returns-returns-in-Unwrapping
returns-returns-in-Unwrapping t c = c.any_returns-in-Unwrapping.ensures ∙ sym (ap returns c.in-Unwrapping.is ∙ unwrapping_returns c.in-Unwrapping.field-0 c.in-Unwrapping.field-1 c.in-Unwrapping.field-2 c.in-Unwrapping.field-3 c.in-Unwrapping.body ∙ sym (ap one_returns c.deref-in-Unwrapping.ensures.value))
