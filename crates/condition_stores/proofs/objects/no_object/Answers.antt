use Rattle.condition_code.proofs.States.{state_later}
use Rattle.condition_code.proofs.Walks.{gives}
use Rattle.condition_formulas.proofs.Symbolics.{is_reference}
use Rattle.condition_stores.proofs.objects.no_object.Goals as goal

pub returns : goal.returns
returns c = λ p b ty s hs.
    let l = c.in_ok-nothing.ensures.later in
    gives l (record { value_is = is_reference c.in_ok-nothing.ensures.stands; state_is = state_later l hs })
