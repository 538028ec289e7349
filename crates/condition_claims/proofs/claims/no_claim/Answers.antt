use Rattle.condition_formulas.proofs.Symbolics.{is_reference}
use Rattle.condition_code.proofs.States.{state_later}
use Rattle.condition_code.proofs.Walks.{gives}
use Rattle.condition_claims.proofs.claims.no_claim.Goals as goal

pub returns : goal.returns
returns c = λ b q s hs.
    gives c.in_ok-nothing.ensures.later (record { value_is = is_reference c.in_ok-nothing.ensures.stands; state_is = state_later c.in_ok-nothing.ensures.later hs })
