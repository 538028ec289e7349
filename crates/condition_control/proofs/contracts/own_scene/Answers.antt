use Rattle.condition_formulas.proofs.Symbolics.{are_later}
use Rattle.condition_control.proofs.contracts.own_scene.Goals as goal

pub returns-clause-stands : goal.returns-clause-stands
returns-clause-stands c = λ h ws hh hws.
    c.call_scene.ensures.stands _ _ _ c.in_ok-thread.ensures.stands (c.in_ok-thread.ensures.later _ _ hh) (are_later c.in_ok-thread.ensures.later hws)
