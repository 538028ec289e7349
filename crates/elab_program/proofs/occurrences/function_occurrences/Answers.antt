use Rattle.std.proofs.Common.{ap, ◌∙◌}
use Rattle.c_syntax.specs.Views as view
use Rattle.elab_sites.specs.Views.{occurrence}
use Rattle.typing_symbols.specs.Whole.{program}
use Rattle.typed_program.specs.Numbers.{Around}
use Rattle.elab_program.specs.Walks as spec
use Rattle.elab_program.proofs.Parts.{function_around}
use Rattle.elab_program.proofs.Walks.{first_added}
use Rattle.elab_program.proofs.occurrences.function_occurrences.Goals as goal

pub returns : goal.returns
returns c =
    let items = program c.args.declarations.now in
    let h = view.function c.args.x.now in
    first_added occurrence _ _ _ c.new-so_far.ensures.items c.in_ok-function_adds.ensures ∙ ap (λ (a : Around). spec.occurrences_of a c.args.number h) (function_around items h c.surroundings.ensures c.in_ok-scope.ensures c.in_ok-places.ensures)
