use Rattle.std.proofs.Common.{refl, map, arith}
use Rattle.c_syntax.specs.Views as view
use Rattle.elab_code.specs.Views.{around}
use Rattle.typed_program.specs.Shapes.{numbered}
use Rattle.typed_program.specs.Tables as tables
use Rattle.typed_program.specs.Tables.{item_of, clause_formulas}
use Rattle.elab_clauses.specs.Numberings.{numbering}
use Rattle.elab_clauses.proofs.Steps.{one_more, all_added}
use Rattle.elab_clauses.proofs.Clauses.{clause_law}
use Rattle.elab_clauses.proofs.contracts.written.Goals as goal

pub loop-x-preserved : goal.loop-x-preserved
loop-x-preserved c =
    let k = numbering c.args.numbering in
    let made = tables.written (around c.args.around) in
    let f = numbered k.shapes k.sorts in
    one_more view.clause (λ n xs. map f (tables.each_clause made n xs)) (λ n x. map f (made n x)) clause_formulas (clause_law f made)
    c.args.all.now c.loop-x.x-index c.x-item.result c.loop-x-test.true c.x-item.is _ _ c.in_ok-next.ensures _ _ _ c.in_ok-add_written.ensures c.loop-x.invariant

pub returns : goal.returns
returns c =
    let k = numbering c.args.numbering in
    all_added view.clause (λ xs. map (numbered k.shapes k.sorts) (tables.each_clause (tables.written (around c.args.around)) c.loop-x.next xs)) refl c.args.all.now c.loop-x.x-index (omega arith) _ _ c.loop-x.invariant
