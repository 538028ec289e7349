use Rattle.std.specs.Prelude.{◌≡◌, ◌<◌, List, Bool, false, length, replicate}
use Rattle.std.proofs.Common.{sym, ◌∙◌, ap, subst, arith}
use Rattle.std.proofs.lemmas.Grind.{common_steps}
use Rattle.conditions.specs.Formulas.{constants}
use Rattle.condition_formulas.specs.Walks.{AreSeen}
use Rattle.condition_formulas.proofs.Walks.{none_seen, stands_within}
use Rattle.condition_formulas.proofs.constants.constants.Goals as goal

pub returns : goal.returns
returns c = λ f is.
    let fresh : c.resize.new.self.items ≡ replicate c.len.result false = grind (arith, common_steps) in
    let within : c.args.id < length c.resize.new.self.items = grind (arith, common_steps, stands_within is) in
    c.in_ok-visit.ensures.found f within is (subst (λ (xs : List Bool). AreSeen c.args.graph.now xs c.new-found.result.items) (sym fresh) (none_seen c.args.graph.now c.len.result c.new-found.result.items)) ∙ ap (constants f) c.new-found.ensures.items
