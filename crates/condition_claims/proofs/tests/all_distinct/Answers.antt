use Rattle.std.proofs.Common.{refl}
use Rattle.conditions.specs.Actions.{distinct_from}
use Rattle.condition_formulas.proofs.Rows.{same_ids}
use Rattle.condition_claims.proofs.Each.{behind_none, behind_next, behind_all}
use Rattle.condition_claims.proofs.tests.all_distinct.Goals as goal

pub loop-i-init : goal.loop-i-init
loop-i-init c = behind_none c.new-all.ensures.items

pub loop-i-preserved : goal.loop-i-preserved
loop-i-preserved c =
    behind_next (λ u qs o. distinct_from o qs) c.loop-i.invariant (λ u qs o os. refl) c.loop-i-test.true c.in_ok-apart.ensures.later (λ u qs o known earlier is. same_ids c.deref.ensures.value (c.in_ok-apart.ensures.stands o qs is earlier)) c.in_ok-extend_from_slice.ensures.items

pub returns-clause-stands : goal.returns-clause-stands
returns-clause-stands c = λ os all. behind_all c.loop-i.invariant (λ u qs. refl) c.loop-i-test.false tt os tt all
