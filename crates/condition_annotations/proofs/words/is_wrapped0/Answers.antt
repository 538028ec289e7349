use Rattle.condition_formulas.proofs.Symbolics.{is_truth}
use Rattle.condition_annotations.proofs.words.is_wrapped0.Goals as goal

pub returns-clause-stands : goal.returns-clause-stands
returns-clause-stands c = λ s v h0 h1. is_truth (c.in_ok-id.ensures.stands _ _ (c.in_ok-alone.ensures.later _ _ (c.in_ok-unclaimed.ensures.later _ _ (c.in_ok-zero.ensures.later _ _ (c.in_ok-claims.ensures.later _ _ (c.in_ok-mine.ensures.later _ _ (c.in_ok-holder.ensures.later _ _ (c.in_ok-shut.ensures.stands _ _ (c.in_ok-o.ensures.later _ _ (c.heap-heap.ensures _ _ h0)) (c.in_ok-o.ensures.stands _ h1)))))))) (c.in_ok-alone.ensures.stands _ _ (c.in_ok-unclaimed.ensures.later _ _ (c.in_ok-zero.ensures.later _ _ (c.in_ok-claims.ensures.later _ _ (c.in_ok-mine.ensures.stands _ _ (c.in_ok-holder.ensures.stands _ _ (c.in_ok-shut.ensures.later _ _ (c.in_ok-o.ensures.later _ _ (c.heap-heap.ensures _ _ h0))) (c.in_ok-shut.ensures.later _ _ (c.in_ok-o.ensures.stands _ h1))) (c.in_ok-holder.ensures.later _ _ (c.in_ok-shut.ensures.later _ _ (c.in_ok-o.ensures.later _ _ h0.me_is))))))) (c.in_ok-unclaimed.ensures.stands _ _ (c.in_ok-zero.ensures.later _ _ (c.in_ok-claims.ensures.stands _ _ (c.in_ok-mine.ensures.later _ _ (c.in_ok-holder.ensures.later _ _ (c.in_ok-shut.ensures.later _ _ (c.in_ok-o.ensures.later _ _ (c.heap-heap.ensures _ _ h0))))) (c.in_ok-mine.ensures.later _ _ (c.in_ok-holder.ensures.later _ _ (c.in_ok-shut.ensures.later _ _ (c.in_ok-o.ensures.stands _ h1)))))) c.in_ok-zero.ensures.stands)))
