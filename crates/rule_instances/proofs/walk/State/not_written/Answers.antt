use Rattle.std.proofs.Common.{refl, ◌∙◌, ap, ℕ, List, ◌∷◌, slice_get, length, ◌-◌}
use Rattle.condition_formulas.proofs.Rows.{same_ids}
use Rattle.rule_instances.proofs.Going.{stop_first, go_unwritten}
use Rattle.rule_instances.proofs.walk.State.not_written.Goals as goal

pub returns-in_default-clause-went : goal.returns-in_default-clause-went
returns-in_default-clause-went c = λ l tree st numbers m. stop_first m (c.in_default.ensures ∙ ap (λ (xs : List ℕ). slice_get xs (length xs - 2)) c.deref.ensures.value)

pub returns-clause-went : goal.returns-clause-went
returns-clause-went c = λ l tree st numbers m.
    go_unwritten m (c.in-Some.ensures ∙ ap (λ (xs : List ℕ). slice_get xs (length xs - 2)) c.deref.ensures.value) (c.in-Some-last.ensures ∙ ap (λ (xs : List ℕ). slice_get xs (length xs - 1)) c.deref-2.ensures.value) c.in_ok-others.ensures.later c.in_ok-id.ensures.later (λ g gs one all. c.in_ok-others.ensures.stands g gs one (same_ids c.deref-3.ensures.value all)) (c.in_ok-all.ensures ∙ ap (λ (xs : List ℕ). c.in-Some-last.formula ∷ xs) c.deref-4.ensures.value) (λ fs all. c.in_ok-id.ensures.stands fs (same_ids c.deref-5.ensures.value all)) c.in_ok-replace.ensures (record { writes = refl; keys = refl; ty = refl; number = refl; column = refl; declared = refl; body = refl })
