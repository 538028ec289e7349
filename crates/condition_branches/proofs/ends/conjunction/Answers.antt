use Rattle.std.proofs.Common.{◌≡◌, ◌<◌, length, arith}
use Rattle.condition_formulas.proofs.Rows.{given_ids}
use Rattle.condition_branches.proofs.Knowing.{no_facts, some_facts}
use Rattle.condition_branches.proofs.ends.conjunction.Goals as goal

pub returns-then-is_empty-clause-stands : goal.returns-then-is_empty-clause-stands
returns-then-is_empty-clause-stands c = λ fs all.
    let none : length c.args.ids.now ≡ 0 = grind (arith, c.is_empty.ensures) in
    no_facts none all c.new.ensures.items

pub returns-clause-stands : goal.returns-clause-stands
returns-clause-stands c = λ fs all.
    let some : 0 < length c.args.ids.now = grind (arith, c.is_empty.ensures) in
    given_ids c.listed.result c.listed.ensures (some_facts some all (c.in_ok-all.ensures.stands fs all))
