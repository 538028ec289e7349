use Rattle.std.proofs.Common.{rules, ◌≡◌, ◌∷◌, [], ◌++◌}
use mir.Val.{SFits}
use Rattle.std.specs.Int.{w128}
use Rattle.std.proofs.lemmas.Int.{to_z-of_z}
use Rattle.rule_linear.proofs.Cutting.{exact_of}
use Rattle.rule_linear.proofs.cut.cut_of.Goals as goal

pub returns-clause-exact : goal.returns-clause-exact
returns-clause-exact c =
    let g = c.in-Some.divisor.now in
    let f : SFits w128 g = search rules in
    let n : c.args.numbers.now ≡ g ∷ c.in-Some.multipliers.now = search rules in
    let l : c.args.clause.now ≡ c.in-Some-split_last.before.now ++ c.in-Some-split_last.last.now ∷ [] = search rules in
    let h = c.is_cut.ensures.exact in
    exact_of c.args.sorts.now c.args.terms.now c.args.numbers.now c.args.clause.now g c.in-Some.multipliers.now c.in-Some-split_last.before.now c.in-Some-split_last.last.now n l c.is_cut.result (simp to_z-of_z at h)
