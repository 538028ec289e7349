use Rattle.std.specs.Int.{w128}
use Rattle.std.proofs.lemmas.Int.{to_z-of_z}
use Rattle.std.proofs.Common.{ℕ, List, [], ◌∷◌, ◌++◌, ◌-◌, take, drop, length, arith, ap, ◌≡◌, ◌∙◌}
use Rattle.rule_instances.proofs.Replacing.{built, whole_rest}
use Rattle.rule_instances.proofs.making.build.Goals as goal

pub returns-clause-stands : goal.returns-clause-stands
returns-clause-stands c = λ fs ks all last.
    let place : c.saturating_sub-at.result ≡ length c.args.terms.now.items - c.args.count = omega (arith, c.saturating_sub-at.ensures, c.len.ensures) in
    let part = ap (λ (xs : List ℕ). take (length xs - c.saturating_sub-at.result) (drop c.saturating_sub-at.result xs) ++ c.args.behind.now) c.deref.ensures.value ∙ ap (λ (xs : List ℕ). xs ++ c.args.behind.now) (whole_rest c.args.terms.now.items c.saturating_sub-at.result) in
    built c.args.count all last place (c.deref-2.ensures.value ∙ c.in_ok-args.ensures ∙ part) c.in_ok-id.ensures.later (rw (to_z-of_z w128 c.args.index c.ranges.index) at c.in_ok-id.ensures.stands) (c.in_ok-push.ensures.items ∙ ap (λ (xs : List ℕ). xs ++ c.in_ok-id.id ∷ []) c.truncate.ensures.items)
