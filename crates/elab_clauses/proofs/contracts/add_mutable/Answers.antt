use Rattle.std.proofs.Common.{◌+◌, refl, ap, ◌∙◌, map, arith}
use Rattle.c_syntax.specs.Views as view
use Rattle.elab_code.specs.Views.{around}
use Rattle.typed_program.specs.Annotations.{formulas}
use Rattle.typed_program.specs.Tables as tables
use Rattle.typed_program.specs.Tables.{item_of, clause_formulas}
use Rattle.elab_clauses.specs.Numberings.{numbering}
use Rattle.elab_clauses.proofs.Steps.{one_more, all_added}
use Rattle.elab_clauses.proofs.Clauses.{mutable_law}
use Rattle.elab_clauses.proofs.contracts.add_mutable.Goals as goal

pub loop-x-preserved : goal.loop-x-preserved
loop-x-preserved c =
    let k = numbering c.args.numbering in
    let a = around c.args.around in
    let f = tables.numbered_clause k.shapes k.sorts in
    let p = c.args.span in
    one_more view.written (λ n ws. map f (map (tables.clause p) (tables.mutable_items a n ws))) (λ n w. map f (map (tables.clause p) (tables.mutable_item a n w))) (λ w. formulas (item_of w)) (mutable_law f p a)
    c.args.all.now c.loop-x.x-index c.x-item.result c.loop-x-test.true c.x-item.is _ _ (c.in_ok-next.ensures ∙ ap (λ e. c.loop-x.next + formulas e) c.item_of.ensures) _ _ _ c.in_ok-add_item.ensures c.loop-x.invariant

pub returns : goal.returns
returns c =
    let k = numbering c.args.numbering in
    let f = tables.numbered_clause k.shapes k.sorts in
    all_added view.written (λ ws. map f (map (tables.clause c.args.span) (tables.mutable_items (around c.args.around) c.loop-x.next ws))) refl c.args.all.now c.loop-x.x-index (omega arith) _ _ c.loop-x.invariant
