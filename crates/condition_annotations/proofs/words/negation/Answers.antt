use Rattle.condition_formulas.proofs.Symbolics.{is_truth}
use Rattle.condition_annotations.proofs.words.negation.Goals as goal

pub returns-clause-stands : goal.returns-clause-stands
returns-clause-stands c = λ v h0. is_truth (c.in_ok-id.ensures.stands _ (c.in_ok-holds.ensures.stands _ h0))
