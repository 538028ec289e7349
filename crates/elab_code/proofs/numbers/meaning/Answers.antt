use Rattle.std.proofs.Common.{refl, sym, ◌∙◌, ap, rules}
use Rattle.c_syntax.specs.Views as view
use Rattle.typing_symbols.specs.Scopes.{known}
use Rattle.typing_expressions.specs.Views.{quantified}
use Rattle.elab_code.specs.Views.{around}
use Rattle.elab_code.proofs.Positions.{of_quantifier, given}
use Rattle.elab_code.proofs.numbers.meaning.Goals as goal

pub returns-in-Some : goal.returns-in-Some
returns-in-Some c =
    let s = c.args.around_text.context.scope in
    of_quantifier (around c.args.around_text) (view.id c.args.name.now) (quantified s.quantified.now) (known s.variables.now) refl refl c.in-Some.place (sym c.in-Some.is ∙ c.in_ok-bound.ensures)

pub returns-in-None : goal.returns-in-None
returns-in-None c = given _ _ c.unquantified.result (sym c.in-None.is ∙ c.in_ok-bound.ensures) c.unquantified.ensures
