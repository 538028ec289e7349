use Rattle.std.proofs.Common.{ap, ◌∙◌, ℕ, List, ◌++◌, ◌-◌, drop, length}
use Rattle.condition_formulas.proofs.Rows.{same_ids, both}
use Rattle.rule_instances.proofs.Bodies.{last_stand, fill_went}
use Rattle.rule_instances.proofs.walk.State.fill.Goals as goal

pub returns-clause-went : goal.returns-clause-went
returns-clause-went c = λ l tree st numbers m.
    let last = last_stand c.args.count m.terms (c.last_of.ensures ∙ ap (λ (xs : List ℕ). drop (length xs - c.args.count) xs) c.deref.ensures.value) in
    let are = c.deref-3.ensures.value ∙ c.in_ok-args.ensures ∙ ap (λ (xs : List ℕ). c.last_of.result.now ++ xs) c.deref-2.ensures.value in
    fill_went l tree _ _ numbers st c.args.count c.in_ok-went.went (c.in_ok-went.ensures.filled st _ m (same_ids are (both last m.keys)))
