use Rattle.std.specs.Prelude.{[]}
use Rattle.std.proofs.Common.{sym, subst}
use Rattle.program_quantifiers.specs.Quantifiers.{AreQuantified}
use Rattle.program_quantifiers.proofs.Adding.{then_adds, none_quantified}
use Rattle.program_quantifiers.proofs.functions.program_quantifiers.Goals as goal

pub returns : goal.returns
returns c =
    let one = rw c.deref.ensures.value at c.in_ok-add_structs.ensures in
    let two = rw c.deref-2.ensures.value at c.in_ok-add_functions.ensures in
    (then_adds one two).all [] (subst (λ cs. AreQuantified c.new-graph.result cs []) (sym c.new-formulas.ensures.items) none_quantified)
