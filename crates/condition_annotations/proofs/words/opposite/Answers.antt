use Rattle.condition_formulas.proofs.Symbolics.{is_number}
use Rattle.condition_annotations.proofs.words.opposite.Goals as goal

pub returns-clause-stands : goal.returns-clause-stands
returns-clause-stands c = λ v h0. is_number (c.in_ok-id.ensures.stands _ _ c.in_ok-zero.ensures.stands (c.in_ok-zero.ensures.later _ _ (c.in_ok-number.ensures.stands _ h0)))
