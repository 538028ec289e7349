use Rattle.condition_formulas.proofs.Rows.{same_ids}
use Rattle.condition_claims.proofs.Noted.{no_claimable, one_claimable, every_claimable}
use Rattle.condition_claims.proofs.tests.claimable_types.Goals as goal

pub loop-i-init : goal.loop-i-init
loop-i-init c = no_claimable c.new-all.ensures.items

pub loop-i-preserved : goal.loop-i-preserved
loop-i-preserved c =
    one_claimable c.index-structs-i.result c.index-structs-i.is c.loop-i.invariant c.loop-i-test.true c.in_ok-number.ensures.later (same_ids c.deref.ensures.value c.in_ok-number.ensures.stands) c.in_ok-extend_from_slice.ensures.items

pub returns-clause-stands : goal.returns-clause-stands
returns-clause-stands c = every_claimable c.loop-i.invariant c.loop-i-test.false
