use Rattle.std.proofs.Common.{map, ap, ◌∙◌, List}
use Rattle.c_syntax.specs.declared.items.Clause.{Clause}
use Rattle.c_syntax.specs.Views as view
use Rattle.elab_clauses.specs.Numberings.{numbering as shaped}
use Rattle.elab_clauses.specs.Typing.{preconditions, postconditions, written}
use Rattle.typing_symbols.specs.Scopes.{known}
use Rattle.typing_symbols.specs.Whole.{program}
use Rattle.elab_assignments.specs.Views.{before as stands}
use Rattle.elab_statements.specs.Settings.{setting as set, at}
use Rattle.typed_program.specs.Numbers.{Around}
use Rattle.elab_program.proofs.Parts.{function_told}
use Rattle.elab_program.proofs.functions.occurrence.Goals as goal

pub returns : goal.returns
returns c =
    let k = shaped c.args.numbering in
    let a = at (set c.args.setting) (known c.args.scope.now) in
    let n = c.args.before.formulas in
    let same = c.as_slice-contract.ensures.value in
    c.info_of.ensures ∙ function_told k (program c.args.setting.surroundings.declarations.now) (view.function c.args.x.now) (stands c.args.before) a c.requires c.in_ok-name.ensures c.in_ok-value.ensures c.in_ok-count.ensures c.in_ok-table.ensures
    (c.in_ok-required.ensures ∙ (ap (λ (z : Around). preconditions k z n (map view.clause c.as_slice-contract.result.now)) c.around-around.ensures ∙ ap (λ (xs : List Clause). preconditions k a n (map view.clause xs)) same))
    (c.in_ok-ensured.ensures ∙ (ap (λ (z : Around). postconditions k z n (map view.clause c.as_slice-contract.result.now)) c.around-around.ensures ∙ ap (λ (xs : List Clause). postconditions k a n (map view.clause xs)) same))
    (c.in_ok-writes.ensures ∙ (ap (λ (z : Around). written k z n (map view.clause c.as_slice-contract.result.now)) c.around-around.ensures ∙ ap (λ (xs : List Clause). written k a n (map view.clause xs)) same))
    c.in_ok-body.ensures
