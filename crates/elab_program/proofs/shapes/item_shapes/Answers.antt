use Rattle.std.proofs.Common.{refl, arith}
use Rattle.elab_clauses.proofs.Steps.{all_added}
use Rattle.typing_symbols.specs.Whole.{program}
use Rattle.typed_program.specs.Tables as tables
use Rattle.elab_program.specs.Views.{declared}
use Rattle.elab_program.specs.Walks as spec
use Rattle.elab_program.proofs.Steps.{one_more}
use Rattle.elab_program.proofs.Walks.{shape_law}
use Rattle.elab_program.proofs.shapes.item_shapes.Goals as goal

pub loop-x-preserved : goal.loop-x-preserved
loop-x-preserved c =
    let items = program c.args.declarations.now in
    one_more declared (tables.item_shapes items) (spec.shapes_of items) spec.functions_after (shape_law items)
    c.args.all.now c.loop-x.x-index c.x-item.result c.loop-x-test.true c.x-item.is _ _ c.in_ok-number.ensures _ _ _ c.in_ok-add_item_shapes.ensures c.loop-x.invariant

pub returns : goal.returns
returns c =
    all_added declared (tables.item_shapes (program c.args.declarations.now) c.loop-x.number) refl c.args.all.now c.loop-x.x-index (omega arith) _ _ c.loop-x.invariant
