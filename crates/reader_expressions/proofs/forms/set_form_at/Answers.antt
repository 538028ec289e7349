use Rattle.std.proofs.Common.{◌≡◌, true, false, sym, ◌∙◌}
use Rattle.reader_expressions.proofs.Primaries.{quantifier_first, no_form_first}
use Rattle.reader_expressions.proofs.forms.set_form_at.Goals as goal

pub returns-in_default-clause-none : goal.returns-in_default-clause-none
returns-in_default-clause-none c = no_form_first _ c.in_default.ensures

pub returns-then-is_quantifier-clause-none : goal.returns-then-is_quantifier-clause-none
returns-then-is_quantifier-clause-none c = quantifier_first c.in-Some.form _ (sym c.is_quantifier.ensures ∙ c.if-is_quantifier.true) c.in-Some.ensures
