use Rattle.std.proofs.Common.{refl, arith, map}
use Rattle.elab_clauses.proofs.Steps.{all_added}
use Rattle.typing_symbols.specs.Whole.{program}
use Rattle.elab_assignments.specs.Views.{before}
use Rattle.c_syntax.specs.Items.{Item}
use Rattle.typed_program.specs.Statements.{Counters, plus}
use Rattle.typed_program.specs.Tables as tables
use Rattle.typed_program.specs.Views as seen
use Rattle.elab_program.specs.Views.{declared}
use Rattle.elab_program.specs.Walks as spec
use Rattle.elab_program.proofs.Steps.{one_more}
use Rattle.elab_program.proofs.Walks.{struct_law}
use Rattle.elab_program.proofs.tables.struct_table.Goals as goal

pub loop-x-preserved : goal.loop-x-preserved
loop-x-preserved c =
    let items = program c.args.declarations.now in
    let shapes = map seen.shape c.args.shapes.now in
    one_more declared (spec.all_structs shapes items) (spec.struct_of shapes items) (λ (n : Counters) (x : Item). plus n (tables.in_item x)) (struct_law shapes items)
    c.args.all.now c.loop-x.x-index c.x-item.result c.loop-x-test.true c.x-item.is _ _ c.in_ok-next.ensures _ _ _ c.in_ok-add_struct.ensures c.loop-x.invariant

pub returns : goal.returns
returns c =
    all_added declared (spec.all_structs (map seen.shape c.args.shapes.now) (program c.args.declarations.now) (before c.loop-x.next)) refl c.args.all.now c.loop-x.x-index (omega arith) _ _ c.loop-x.invariant
