use Rattle.std.proofs.Common.{subst, List, ℤ, IfOk}
use Rattle.int_ranges.specs.declared.exact.Wide.{Wide}
use Rattle.rule_linear.specs.Cuts.{CutLeaves}
use Rattle.rule_linear.proofs.cut.CutRule.concludes.Goals as goal

pub returns-clause-exact : goal.returns-clause-exact
returns-clause-exact c =
    subst (λ (ms : List ℤ). IfOk c.cut_of.result (λ yes. (w : Wide) → CutLeaves c.args.self.now.sorts.now c.args.terms.now ms c.args.clause.now w → ⊥)) c.as_slice.ensures c.cut_of.ensures.exact
