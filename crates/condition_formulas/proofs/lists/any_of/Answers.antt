use Rattle.std.proofs.Common.{◌≡◌, ◌+◌, ◌-◌, length, arith}
use Rattle.condition_formulas.proofs.Joins.{joins_any, from_end, from_before}
use Rattle.condition_formulas.proofs.lists.any_of.Goals as goal

pub loop-i-init : goal.loop-i-init
loop-i-init c =
    let last : length c.args.ids.now - 1 + 1 ≡ length c.args.ids.now = grind (arith, c.is_empty.ensures) in
    from_end joins_any c.args.graph.now c.args.ids.now _ last

pub loop-i-preserved : goal.loop-i-preserved
loop-i-preserved c =
    let next : c.loop-i.i - 1 + 1 ≡ c.loop-i.i = omega arith in
    from_before joins_any c.args.graph.now c.loop-i.graph c.or.new.graph c.args.ids.now c.loop-i.i (c.loop-i.i - 1) c.loop-i.any c.in_ok-any.any c.loop-i.invariant next c.in_ok-any.ensures.later c.in_ok-any.ensures.stands
