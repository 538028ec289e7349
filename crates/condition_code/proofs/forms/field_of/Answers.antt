use Rattle.condition_code.proofs.States.{spot_later, state_later}
use Rattle.condition_code.proofs.Walks.{run_built}
use Rattle.condition_code.proofs.forms.field_of.Goals as goal

pub returns : goal.returns
returns c = λ b s w hb hs hw.
    run_built c.in_ok-id.ensures.later (c.in_ok-value.ensures b s _ (spot_later c.in_ok-id.ensures.later hb) (state_later c.in_ok-id.ensures.later hs) (c.in_ok-id.ensures.stands _ hw))
