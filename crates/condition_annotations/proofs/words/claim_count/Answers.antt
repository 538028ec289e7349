use Rattle.condition_formulas.proofs.Symbolics.{is_number}
use Rattle.condition_annotations.proofs.words.claim_count.Goals as goal

pub returns-clause-stands : goal.returns-clause-stands
returns-clause-stands c = λ s v h0 h1. is_number (c.in_ok-id.ensures.stands _ _ (c.in_ok-o.ensures.later _ _ (c.heap-heap.ensures _ _ h0)) (c.in_ok-o.ensures.stands _ h1))
