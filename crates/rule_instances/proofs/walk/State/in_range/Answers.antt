use Rattle.std.proofs.Common.{refl, ◌∙◌, ap, ℕ, List, slice_get, length, ◌-◌}
use Rattle.condition_formulas.proofs.Rows.{same_ids}
use Rattle.rule_instances.proofs.Going.{stop_range, go_range}
use Rattle.rule_instances.proofs.walk.State.in_range.Goals as goal

pub returns-in_default-clause-went : goal.returns-in_default-clause-went
returns-in_default-clause-went c = λ l tree st numbers m. stop_range m (c.in_default.ensures ∙ ap (λ (xs : List ℕ). slice_get xs (length xs - 1)) c.deref.ensures.value)

pub returns-clause-went : goal.returns-clause-went
returns-clause-went c = λ l tree st numbers m.
    go_range m (c.in-Some.ensures ∙ ap (λ (xs : List ℕ). slice_get xs (length xs - 1)) c.deref.ensures.value) c.in_ok-facts.ensures.later c.in_ok-id.ensures.later c.in_ok-facts.ensures.stands (λ fs all. c.in_ok-id.ensures.stands fs (same_ids c.deref-2.ensures.value all)) c.in_ok-replace.ensures (record { writes = refl; keys = refl; ty = refl; number = refl; column = refl; declared = refl; body = refl })
