use Rattle.condition_formulas.proofs.Symbolics.{symbolic_later}
use Rattle.condition_annotations.proofs.words.choice.Goals as goal

pub returns-clause-stands : goal.returns-clause-stands
returns-clause-stands c = λ u v w h0 h1 h2. c.choose.ensures.stands _ _ _ (c.in_ok-holds.ensures.stands _ h0) (symbolic_later c.in_ok-holds.ensures.later h1) (symbolic_later c.in_ok-holds.ensures.later h2)
