use Rattle.condition_formulas.proofs.Symbolics.{is_truth, symbolic_later}
use Rattle.condition_annotations.proofs.words.claims_object.Goals as goal

pub returns-clause-stands : goal.returns-clause-stands
returns-clause-stands c = λ s v w h0 h1 h2. is_truth (c.in_ok-id.ensures.stands _ _ _ (c.in_ok-object.ensures.later _ _ (c.in_ok-claim.ensures.later _ _ (c.heap-heap.ensures _ _ h0))) (c.in_ok-object.ensures.later _ _ (c.in_ok-claim.ensures.stands _ h1)) (c.in_ok-object.ensures.stands _ (symbolic_later c.in_ok-claim.ensures.later h2)))
