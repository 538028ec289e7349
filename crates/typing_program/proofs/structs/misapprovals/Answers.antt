use Rattle.std.proofs.Common.{ap, ◌∙◌, List, map, arith}
use Rattle.c_syntax.specs.declared.items.Member.{Member}
use Rattle.c_syntax.specs.Views as view
use Rattle.typing_expressions.specs.Views.{maybe_broken}
use Rattle.typing_expressions.proofs.Rows.{take_all}
use Rattle.typing_program.specs.Violation as spec
use Rattle.typing_program.proofs.Firsts.{misapprovals_next}
use Rattle.typing_program.proofs.structs.misapprovals.Goals as goal

pub loop-member-preserved : goal.loop-member-preserved
loop-member-preserved c =
    misapprovals_next (view.struct c.args.x.now.tree.now) view.member c.args.members.now c.loop-member.member-index c.member-item.result (maybe_broken c.loop-member.so_far) (maybe_broken c.member_misapproval.result) _ c.loop-member-test.true c.member-item.is c.loop-member.invariant
    c.member_misapproval.ensures c.earlier-so_far.ensures

pub returns : goal.returns
returns c = c.loop-member.invariant ∙ ap (λ (ms : List Member). spec.misapprovals (view.struct c.args.x.now.tree.now) (map view.member ms)) (take_all c.args.members.now c.loop-member.member-index (omega arith))
