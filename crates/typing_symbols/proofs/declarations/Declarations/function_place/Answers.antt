use Rattle.std.proofs.Common.{List, ℕ, position, ap, ◌∙◌}
use Rattle.c_syntax.specs.Views as view
use Rattle.typing_spec.specs.Declarations as spec
use Rattle.typing_symbols.specs.Program.{is_function}
use Rattle.typing_symbols.proofs.Declared.{functions_view}
use Rattle.typing_symbols.proofs.Places.{position_in}
use Rattle.typing_symbols.proofs.declarations.Declarations.function_place.Goals as goal

pub returns-in_err-place : goal.returns-in_err-place
returns-in_err-place c =
    let d = c.args.self.now in
    rw c.from_residual.ensures
    (c.in_err-place.ensures.value ∙ d.first_function c.as_slice.result.now ∙ ap (λ (b : List ℕ). position (λ e. is_function b e.now) d.functions.items) c.as_slice.ensures.value
    ∙ position_in (λ e. view.function e.now) (λ t. spec.same_name t.name (view.id c.args.name.now)) d.functions.items _ (functions_view (λ e. e.now) d.functions.items d.items.now d.all_functions))

pub returns : goal.returns
returns c =
    let d = c.args.self.now in
    c.in_ok-place.ensures.value ∙ d.first_function c.as_slice.result.now ∙ ap (λ (b : List ℕ). position (λ e. is_function b e.now) d.functions.items) c.as_slice.ensures.value
    ∙ position_in (λ e. view.function e.now) (λ t. spec.same_name t.name (view.id c.args.name.now)) d.functions.items _ (functions_view (λ e. e.now) d.functions.items d.items.now d.all_functions)
