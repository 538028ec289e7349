use Rattle.std.proofs.Common.{◌≡◌, Bool, true, false, is_some, find, refl, sym, ◌∙◌, ap, rules}
use Rattle.std.specs.Option.{option_map}
use Rattle.c_syntax.specs.Views as view
use Rattle.typing_spec.specs.Declarations.{same_name}
use Rattle.typing_symbols.specs.Scopes.{known, variable}
use Rattle.typing_expressions.specs.Views.{quantified}
use Rattle.elab_code.specs.Views.{around}
use Rattle.elab_code.proofs.Positions.{of_function, of_own, is_some_map}
use Rattle.elab_code.proofs.numbers.unquantified.Goals as goal

pub returns-then-is_some : goal.returns-then-is_some
returns-then-is_some c =
    let s = c.args.around_text.context.scope in
    λ e. of_function (around c.args.around_text) (view.id c.args.name.now) (quantified s.quantified.now) (known s.variables.now) refl refl e (let t : is_some c.find.result ≡ true = search rules in ap is_some (sym c.find.ensures) ∙ is_some_map variable c.find.result ∙ t) c.in_ok-n.n (c.in_ok-n.ensures ∙ c.place.ensures)

pub returns : goal.returns
returns c =
    let s = c.args.around_text.context.scope in
    λ e. of_own (around c.args.around_text) (view.id c.args.name.now) (quantified s.quantified.now) (known s.variables.now) refl refl e (let t : is_some c.find.result ≡ false = search rules in ap is_some (sym c.find.ensures) ∙ is_some_map variable c.find.result ∙ t) c.in_ok-n-2.n c.in_ok-n-2.ensures
