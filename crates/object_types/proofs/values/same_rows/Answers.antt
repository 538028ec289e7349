use Rattle.std.proofs.Common.{sym, ◌∙◌, inl, inr}
use Rattle.object_types.proofs.Rows.{from_next, same_at_end}
use Rattle.object_types.proofs.values.same_rows.Goals as goal
use Rattle.object_types.proofs.values.same_rows.Goals.{then-loop-i-test+else-i-right, else-loop-i-test}

pub loop-i-preserved : goal.loop-i-preserved
loop-i-preserved c = from_next _ _ _ _ _ c.loop-i.invariant c.loop-i-test.true c.if-i-right.true (sym c.is_same.ensures ∙ c.if-not-is_same.false)

pub returns : goal.returns
returns c =
    elim c.loop-i-test.branch [
      | then-loop-i-test+else-i-right w ↦ same_at_end _ _ _ c.loop-i.invariant (inr w.if-i-right.false)
      | else-loop-i-test w ↦ same_at_end _ _ _ c.loop-i.invariant (inl w.loop-i-test.false)
    ]
