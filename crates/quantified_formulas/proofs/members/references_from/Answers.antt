use Rattle.std.specs.Prelude.{◌≡◌}
use Rattle.std.proofs.Common.{subst, arith}
use Rattle.conditions.specs.Quantified.{references_from}
use Rattle.condition_formulas.specs.Standing.{StandAll}
use Rattle.quantified_formulas.proofs.Rows.{constants_next}
use Rattle.quantified_formulas.proofs.members.references_from.Goals as goal

pub loop-i-preserved : goal.loop-i-preserved
loop-i-preserved c =
    constants_next c.args.graph.now c.loop-i.graph c.reference.new.graph c.args.first c.args.count c.loop-i.all.items c.push.new.self.items c.loop-i.i c.in_ok-constant.constant c.loop-i.invariant c.in_ok-constant.ensures.later c.in_ok-constant.ensures.stands c.in_ok-push.ensures.items

pub returns-clause-stands : goal.returns-clause-stands
returns-clause-stands c =
    let end : c.loop-i.i ≡ c.args.count = omega arith in
    subst (λ n. StandAll c.loop-i.graph c.loop-i.all.items (references_from c.args.first n)) end c.loop-i.invariant.stand
