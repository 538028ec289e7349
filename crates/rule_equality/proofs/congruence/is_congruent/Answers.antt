use Rattle.std.proofs.Common.{rules, ◌<◌, length}
use Rattle.rule_equality.proofs.Congruences.{place_stops}
use Rattle.rule_equality.proofs.congruence.is_congruent.Goals as goal

pub returns-in_default : goal.returns-in_default
returns-in_default c =
    let within : c.loop-i.i < length c.args.right.now = search rules in
    place_stops _ _ _ _ _ _ _ _ _ c.loop-i-test.true within c.in_default.ensures.passes c.loop-i.invariant.row
