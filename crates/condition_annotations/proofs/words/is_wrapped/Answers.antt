use Rattle.condition_formulas.proofs.Symbolics.{is_truth}
use Rattle.condition_annotations.proofs.words.is_wrapped.Goals as goal

pub returns-clause-stands : goal.returns-clause-stands
returns-clause-stands c = λ s v h0 h1. is_truth (c.in_ok-id.ensures.stands _ _ _ (c.in_ok-o.ensures.later _ _ h0.me_is) (c.in_ok-o.ensures.later _ _ (c.heap-heap.ensures _ _ h0)) (c.in_ok-o.ensures.stands _ h1))
