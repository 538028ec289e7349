use Rattle.std.proofs.Common.{ap, ◌∙◌, ◌++◌, map, sym}
use Rattle.typing_symbols.specs.Whole.{program}
use Rattle.typed_program.specs.Views as seen
use Rattle.elab_program.specs.declared.declared.Declared.{Declared}
use Rattle.elab_program.specs.Views.{declared}
use Rattle.elab_program.specs.Walks as spec
use Rattle.elab_program.proofs.Walks.{sites_added}
use Rattle.elab_program.proofs.shapes.add_item_sites.Goals as goal

pub returns-in_ok-add_sites-in-Function : goal.returns-in_ok-add_sites-in-Function
returns-in_ok-add_sites-in-Function c =
    let shapes = map seen.shape c.args.shapes.now in
    let old = map seen.site c.args.so_far.now.items in
    sites_added shapes _ _ _ _ _ _ c.in_ok-sorts-in-Function.ensures c.in_ok-all-in-Function.ensures c.in_ok-add_sites-in-Function.ensures
    ∙ ap (λ (d : Declared). old ++ spec.sites_of shapes (program c.args.declarations.now) c.args.number (declared d)) (sym c.in-Function.is)
