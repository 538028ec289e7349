use Rattle.std.proofs.Common.{rules, ◌+◌}
use mir.Val.{SFits}
use Rattle.std.specs.Int.{w128}
use Rattle.std.proofs.lemmas.Int.{to_z-of_z}
use Rattle.rule_linear.proofs.Sized.{as_so_far, step_sized, all_sized, whole_clear}
use Rattle.rule_linear.proofs.sizes.total_size.Goals as goal

pub loop-i-preserved : goal.loop-i-preserved
loop-i-preserved c =
    let n : SFits w128 c.in_ok-size.size = search rules in
    as_so_far c.args.weights c.args.terms.now _ (c.loop-i.i + 1) _ _ (to_z-of_z w128 c.in_ok-size.size n)
    (step_sized c.args.weights c.args.terms.now _ _ c.loop-i.i _ c.in_ok-size.size c.requires.lengths c.loop-i-test.true c.loop-i.invariant c.in_ok-size.ensures.size c.in_ok-size.ensures.cleared)

pub returns-clause-known : goal.returns-clause-known
returns-clause-known c = all_sized c.args.weights c.args.terms.now _ c.loop-i.i _ c.requires.lengths c.loop-i-test.false c.loop-i.invariant

pub returns-clause-clear : goal.returns-clause-clear
returns-clause-clear c = whole_clear c.args.weights c.args.terms.now _ c.loop-i.i _ c.requires.lengths c.loop-i-test.false c.loop-i.invariant
