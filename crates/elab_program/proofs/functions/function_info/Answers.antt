use Rattle.std.proofs.Common.{map, ap, sym, ◌∙◌, List}
use Rattle.c_syntax.specs.Items.{Item}
use Rattle.c_syntax.specs.Views as view
use Rattle.typing_symbols.specs.Whole.{program}
use Rattle.elab_assignments.specs.Views.{before as stands}
use Rattle.typed_program.specs.Tables as tables
use Rattle.typed_program.specs.Views as seen
use Rattle.typing_statements.specs.Views.{Fixed}
use Rattle.elab_program.proofs.Parts.{function_around, own_sorts}
use Rattle.elab_program.proofs.functions.function_info.Goals as goal

pub occurrence-requires : goal.occurrence-requires
occurrence-requires c =
    let items = program c.args.declarations.now in
    let h = view.function c.args.x.now in
    function_around items h c.surroundings.ensures c.in_ok-scope.ensures c.in_ok-places.ensures ∙ ap (λ (xs : List Item). tables.around_function xs h) (sym (ap (λ (f : Fixed). f.items) c.surroundings.ensures))

pub returns : goal.returns
returns c =
    let items = program c.args.declarations.now in
    let h = view.function c.args.x.now in
    c.in_ok-info.ensures ∙ own_sorts (map seen.shape c.args.shapes.now) items (stands c.args.before) h c.in_ok-sorts.ensures (ap (λ (f : Fixed). f.items) c.surroundings.ensures)
