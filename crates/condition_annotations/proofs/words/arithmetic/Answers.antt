use Rattle.condition_formulas.proofs.Symbolics.{is_number, symbolic_later}
use Rattle.condition_annotations.proofs.words.arithmetic.Goals as goal

pub returns-clause-stands : goal.returns-clause-stands
returns-clause-stands c = λ v w h0 h1. is_number (c.in_ok-id.ensures.stands _ _ (c.in_ok-right.ensures.later _ _ (c.in_ok-left.ensures.stands _ h0)) (c.in_ok-right.ensures.stands _ (symbolic_later c.in_ok-left.ensures.later h1)))
