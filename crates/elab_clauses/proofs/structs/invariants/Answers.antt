use Rattle.std.proofs.Common.{arith}
use Rattle.elab_code.specs.Views.{around}
use Rattle.elab_clauses.specs.Numberings.{numbering}
use Rattle.elab_clauses.proofs.Members.{member_added, none_left, all_left}
use Rattle.elab_clauses.proofs.structs.invariants.Goals as goal

pub loop-x-init : goal.loop-x-init
loop-x-init c = all_left (numbering c.args.numbering) (around c.args.around) c.args.first _ c.args.members.now c.nothing-so_far.ensures

pub loop-x-preserved : goal.loop-x-preserved
loop-x-preserved c =
    member_added (numbering c.args.numbering) (around c.args.around) c.args.members.now c.loop-x.x-index c.x-item.result c.loop-x-test.true c.x-item.is _ _ _ c.in_ok-so_far.ensures c.loop-x.invariant

pub returns : goal.returns
returns c = none_left (numbering c.args.numbering) (around c.args.around) c.args.members.now c.loop-x.x-index (omega arith) _ _ c.loop-x.invariant
