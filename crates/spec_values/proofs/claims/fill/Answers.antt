use Rattle.std.proofs.Common.{sym, ◌∙◌, inl, inr}
use Rattle.spec_values.proofs.Filling.{filled_next, filled_apart, filled_end}
use Rattle.spec_values.proofs.claims.fill.Goals as goal
use Rattle.spec_values.proofs.claims.fill.Goals.{then-loop-i-test+else-i-values, else-loop-i-test}

pub returns-then-not-is_same : goal.returns-then-not-is_same
returns-then-not-is_same c =
    sym (filled_apart _ _ _ _ _ _ _ c.loop-i.invariant c.loop-i-test.true c.if-i-values.true c.filling.ensures (sym c.is_same.ensures ∙ c.if-not-is_same.true))

pub loop-i-preserved : goal.loop-i-preserved
loop-i-preserved c =
    filled_next _ _ _ _ _ _ _ c.loop-i.invariant c.loop-i-test.true c.if-i-values.true c.filling.ensures (sym c.is_same.ensures ∙ c.if-not-is_same.false)

pub returns : goal.returns
returns c =
    elim c.loop-i-test.branch [
      | then-loop-i-test+else-i-values w ↦ filled_end _ _ _ _ c.loop-i.invariant (inr w.if-i-values.false)
      | else-loop-i-test w ↦ filled_end _ _ _ _ c.loop-i.invariant (inl w.loop-i-test.false)
    ]
