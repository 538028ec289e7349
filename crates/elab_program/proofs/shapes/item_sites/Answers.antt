use Rattle.std.proofs.Common.{refl, arith, map}
use Rattle.elab_clauses.proofs.Steps.{all_added}
use Rattle.typing_symbols.specs.Whole.{program}
use Rattle.typed_program.specs.Tables as tables
use Rattle.typed_program.specs.Views as seen
use Rattle.elab_program.specs.Views.{declared}
use Rattle.elab_program.specs.Walks as spec
use Rattle.elab_program.proofs.Steps.{one_more}
use Rattle.elab_program.proofs.Walks.{site_law}
use Rattle.elab_program.proofs.shapes.item_sites.Goals as goal

pub loop-x-preserved : goal.loop-x-preserved
loop-x-preserved c =
    let items = program c.args.declarations.now in
    let shapes = map seen.shape c.args.shapes.now in
    one_more declared (tables.site_table shapes items) (spec.sites_of shapes items) spec.functions_after (site_law shapes items)
    c.args.all.now c.loop-x.x-index c.x-item.result c.loop-x-test.true c.x-item.is _ _ c.in_ok-number.ensures _ _ _ c.in_ok-add_item_sites.ensures c.loop-x.invariant

pub returns : goal.returns
returns c =
    all_added declared (tables.site_table (map seen.shape c.args.shapes.now) (program c.args.declarations.now) c.loop-x.number) refl c.args.all.now c.loop-x.x-index (omega arith) _ _ c.loop-x.invariant
