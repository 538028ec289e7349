use Rattle.std.proofs.Common.{refl, arith}
use Rattle.c_syntax.specs.Views as view
use Rattle.elab_clauses.proofs.Steps.{one_more, all_added}
use Rattle.elab_clauses.specs.Members.{member_formulas}
use Rattle.elab_code.specs.Views.{around}
use Rattle.elab_program.specs.Walks as spec
use Rattle.elab_program.proofs.Walks.{member_law}
use Rattle.elab_program.proofs.occurrences.members_occurrences.Goals as goal

pub loop-x-preserved : goal.loop-x-preserved
loop-x-preserved c =
    let a = around c.args.around in
    one_more view.member (spec.members_occurrences a) (spec.member_occurrences a) member_formulas (member_law a)
    c.args.all.now c.loop-x.x-index c.x-item.result c.loop-x-test.true c.x-item.is _ _ c.in_ok-next.ensures.next _ _ _ c.in_ok-next.ensures.added c.loop-x.invariant

pub returns : goal.returns
returns c =
    all_added view.member (spec.members_occurrences (around c.args.around) c.loop-x.next) refl c.args.all.now c.loop-x.x-index (omega arith) _ _ c.loop-x.invariant
