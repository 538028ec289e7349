use Rattle.std.proofs.Common.{arith, pos, ◌≤ℤ◌, sym, ◌∙◌, refl, Some}
use Rattle.std.proofs.lemmas.Int.{ints, to_z-of_z}
use Rattle.rule_linear.specs.Tests.{IsWeighting}
use Rattle.rule_linear.proofs.Cutting.{cut_row, none_leaves}
use Rattle.rule_linear.proofs.cut.is_cut.Goals as goal

pub returns-clause-rows : goal.returns-clause-rows
returns-clause-rows c =
    let d = c.ranges.divisor in
    let t = c.if-divisor-lt1.false in
    let l : pos 1 ≤ℤ c.args.divisor = grind (arith, ints) in
    let w : IsWeighting c.args.weights c.args.terms.now = sym c.are_weights.ensures ∙ c.if-not-are_weights.false in
    let h = c.is_rounded.ensures in
    cut_row c.args.weights c.args.terms.now c.args.divisor c.args.last c.in-Some.goal (record { factor = c.args.divisor; bound = Some c.in-Some.goal }) c.is_rounded.result refl l w c.in-Some.ensures.value (simp to_z-of_z at h)

pub returns-clause-exact : goal.returns-clause-exact
returns-clause-exact c = none_leaves c.args.weights c.args.terms.now c.args.divisor c.args.last c.in-Some.goal c.in-Some.ensures.value c.in_ok-add_up.ensures.known c.in_ok-bound_form.ensures.known
