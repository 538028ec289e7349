use Rattle.std.proofs.Common.{refl, map, arith}
use Rattle.c_syntax.specs.Views as view
use Rattle.elab_code.specs.Views.{around}
use Rattle.typed_program.specs.Annotations.{mine}
use Rattle.typed_program.specs.Shapes.{numbered}
use Rattle.typed_program.specs.Tables.{invariants_of, each_invariant}
use Rattle.elab_clauses.specs.Members.{member_formulas, member_mine}
use Rattle.elab_clauses.specs.Numberings.{numbering}
use Rattle.elab_clauses.proofs.Members.{mine_law}
use Rattle.elab_clauses.proofs.Steps.{one_more, all_added}
use Rattle.elab_clauses.proofs.structs.members_of_this.Goals as goal

pub loop-x-preserved : goal.loop-x-preserved
loop-x-preserved c =
    let k = numbering c.args.numbering in
    let a = around c.args.around in
    let f = numbered k.shapes k.sorts in
    one_more view.member (λ n xs. map f (each_invariant (mine a) n (invariants_of xs))) (λ n x. map f (member_mine a n x)) member_formulas (mine_law f a)
    c.args.members.now c.loop-x.x-index c.x-item.result c.loop-x-test.true c.x-item.is _ _ c.in_ok-next.ensures _ _ _ c.in_ok-add_mine.ensures c.loop-x.invariant

pub returns : goal.returns
returns c =
    let k = numbering c.args.numbering in
    all_added view.member (λ xs. map (numbered k.shapes k.sorts) (each_invariant (mine (around c.args.around)) c.loop-x.next (invariants_of xs))) refl c.args.members.now c.loop-x.x-index (omega arith) _ _ c.loop-x.invariant
