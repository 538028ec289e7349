use Rattle.condition_formulas.proofs.Symbolics.{is_number}
use Rattle.condition_code.proofs.States.{state_later}
use Rattle.condition_code.proofs.Walks.{gives}
use Rattle.condition_walk.proofs.calls.no_value.Goals as goal

pub returns : goal.returns
returns c = λ p f b s hs. gives c.in_ok-zero.ensures.later (record { value_is = is_number c.in_ok-zero.ensures.stands; state_is = state_later c.in_ok-zero.ensures.later hs })
