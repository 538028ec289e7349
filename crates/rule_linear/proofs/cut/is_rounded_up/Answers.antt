use Rattle.std.proofs.Common.{rules}
use mir.Val.{SFits}
use Rattle.std.specs.Int.{w128}
use Rattle.std.proofs.lemmas.Int.{to_z-of_z}
use Rattle.rule_linear.proofs.Cutting.{up_is, same_is}
use Rattle.rule_linear.proofs.cut.is_rounded_up.Goals as goal

pub returns-then-remainder-gt0 : goal.returns-then-remainder-gt0
returns-then-remainder-gt0 c =
    let f : SFits w128 c.quotient_of-quotient.result = search rules in
    let i = c.ranges.number in
    let k : SFits w128 c.remainder_of-remainder.result = search rules in
    let j = c.ranges.e in
    let l = c.ranges.divisor in
    let q = c.quotient_of-quotient.ensures in
    let r = c.remainder_of-remainder.ensures in
    let h = c.is_next.ensures in
    let t = c.if-remainder-gt0.true in
    up_is c.args.number c.args.e c.args.divisor c.quotient_of-quotient.result c.remainder_of-remainder.result c.is_next.result (simp to_z-of_z at q) (simp to_z-of_z at r) (simp to_z-of_z at t) (simp to_z-of_z at h)

pub returns-else-remainder-gt0 : goal.returns-else-remainder-gt0
returns-else-remainder-gt0 c =
    let f : SFits w128 c.quotient_of-quotient.result = search rules in
    let i = c.ranges.number in
    let k : SFits w128 c.remainder_of-remainder.result = search rules in
    let j = c.ranges.e in
    let l = c.ranges.divisor in
    let q = c.quotient_of-quotient.ensures in
    let r = c.remainder_of-remainder.ensures in
    let h = c.is_same.ensures in
    let t = c.if-remainder-gt0.false in
    same_is c.args.number c.args.e c.args.divisor c.quotient_of-quotient.result c.remainder_of-remainder.result c.is_same.result (simp to_z-of_z at q) (simp to_z-of_z at r) (simp to_z-of_z at t) (simp to_z-of_z at h)
