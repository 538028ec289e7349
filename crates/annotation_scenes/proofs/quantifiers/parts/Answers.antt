use Rattle.condition_formulas.proofs.Symbolics.{are_later}
use Rattle.condition_formulas.proofs.Rows.{all_later, both, given_ids, more, none, same_ids}
use Rattle.annotation_scenes.proofs.quantifiers.parts.Goals as goal

pub returns-clause-stands : goal.returns-clause-stands
returns-clause-stands c = λ s h0. given_ids c.joined-3.result c.joined-3.ensures (both (same_ids c.deref-4.ensures.value (same_ids c.in_ok-words.ensures (both (same_ids c.deref-2.ensures.value (same_ids c.in_ok-state.ensures (both (more (c.in_ok-entry.ensures.later _ _ (c.in_ok-locals.ensures.later _ _ (c.in_ok-result.ensures.later _ _ h0.after_is))) (more (c.in_ok-entry.ensures.later _ _ (c.in_ok-locals.ensures.later _ _ (c.in_ok-result.ensures.later _ _ h0.before_is))) (more (c.in_ok-entry.ensures.later _ _ (c.in_ok-locals.ensures.later _ _ (c.in_ok-result.ensures.later _ _ h0.me_is))) (more (c.in_ok-entry.ensures.later _ _ (c.in_ok-locals.ensures.later _ _ (c.in_ok-result.ensures.later _ _ h0.this_is))) (more (c.in_ok-entry.ensures.later _ _ (c.in_ok-locals.ensures.later _ _ (c.in_ok-result.ensures.stands _ h0.result_is))) none))))) (same_ids c.deref.ensures.value (all_later c.in_ok-entry.ensures.later (c.in_ok-locals.ensures.stands _ (are_later c.in_ok-result.ensures.later h0.locals_are))))))) (same_ids c.deref-3.ensures.value (c.in_ok-entry.ensures.stands _ (are_later c.in_ok-locals.ensures.later (are_later c.in_ok-result.ensures.later h0.entry_is))))))) (all_later c.in_ok-entry.ensures.later (all_later c.in_ok-locals.ensures.later (all_later c.in_ok-result.ensures.later h0.bound_are))))
