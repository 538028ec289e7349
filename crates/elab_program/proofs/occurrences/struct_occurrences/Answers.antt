use Rattle.std.proofs.Common.{ap, ◌∙◌, map, List}
use Rattle.c_syntax.specs.declared.items.Member.{Member}
use Rattle.c_syntax.specs.Views as view
use Rattle.elab_sites.specs.Views.{occurrence}
use Rattle.typing_symbols.specs.Whole.{program}
use Rattle.typed_program.specs.Numbers.{Around}
use Rattle.typed_program.specs.Tables as tables
use Rattle.elab_program.specs.Walks as spec
use Rattle.elab_program.proofs.Walks.{first_added}
use Rattle.elab_program.proofs.occurrences.struct_occurrences.Goals as goal

pub returns : goal.returns
returns c =
    let items = program c.args.declarations.now in
    let s = view.struct c.args.entry.now.tree.now in
    first_added occurrence _ _ _ c.new-so_far.ensures.items c.in_ok-members_occurrences.ensures
    ∙ (ap (λ (a : Around). spec.members_occurrences a 0 (map view.member c.deref.result.now)) c.around_struct-around.ensures
    ∙ ap (λ (xs : List Member). spec.members_occurrences (tables.around_struct items s) 0 (map view.member xs)) c.deref.ensures.value)
