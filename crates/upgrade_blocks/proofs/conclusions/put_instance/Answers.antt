use Rattle.std.proofs.Common.{rules, ◌≡◌, ℤ, pos, Option, FitsSigned, to_z, of_z, get_or, slice_get, option_and_then, drop, ap, sym, subst, ◌∙◌}
use Rattle.std.proofs.lemmas.Int.{to_z-of_z}
use Rattle.std.specs.Int.{w128}
use Rattle.terms.specs.Formula.{Formula}
use Rattle.axiom_steps.specs.Steps.{instance_at}
use Rattle.cert_format.specs.declared.certificate.RuleName.TheVariants as r
use Rattle.block_layout.specs.Layout.{IsNode, truth_value}
use Rattle.block_layout.proofs.Laying.{instance_is, two_first, rest_whole}
use Rattle.block_layout.proofs.Spaces.{stays_by}
use Rattle.upgrade_blocks.proofs.conclusions.put_instance.Goals as goal

pub returns-clause-sorted : goal.returns-clause-sorted
returns-clause-sorted c = stays_by c.in_ok-id.ensures.sorted

pub returns-clause-exact : goal.returns-clause-exact
returns-clause-exact c = λ l trees t s all.
    let xs = c.as_slice.result.now in
    let n = get_or xs 0 (pos 0) in
    let p = get_or xs 1 (pos 0) in
    let first : FitsSigned w128 n = search rules in
    let second : FitsSigned w128 p = search rules in
    let rule : c.args.step.now.rule ≡ r.Axiom = search rules in
    let numbers = sym c.as_slice.ensures ∙ two_first xs (pos 0) c.in-len2-up.len_at_least in
    let same =
    ap (λ (z : ℤ). option_and_then (truth_value l) (instance_at l (slice_get trees) z (to_z w128 (of_z w128 p)) c.in-Some.args.now)) (to_z-of_z w128 n first)
    ∙ ap (λ (z : ℤ). option_and_then (truth_value l) (instance_at l (slice_get trees) n z c.in-Some.args.now)) (to_z-of_z w128 p second)
    ∙ sym (instance_is l trees c.args.step.now n p c.in-Some.field-0-0.now (drop 2 xs) c.in-Some.args.now rule numbers (sym (rest_whole xs c.in-len2-up.len_at_least) ∙ c.in-Some.ensures.cases.0)) in
    subst (λ (o : Option Formula). IsNode c.add_instance.new.self.graph o c.truth_value.result) same
    (c.truth_value.ensures l _ (c.in_ok-id.ensures.sorted.known l t.language s.first) (c.in_ok-id.ensures.exact l trees t s all))
