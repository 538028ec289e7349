use Rattle.std.proofs.Common.{sym, ◌∙◌}
use Rattle.ownership.proofs.Lists.{in_at, in_next, in_end}
use Rattle.ownership.proofs.status.is_among.Goals as goal

pub returns-then-is_same : goal.returns-then-is_same
returns-then-is_same c = sym (in_at _ _ c.loop-other.other-index _ c.loop-other.invariant c.loop-other-test.true (sym c.is_same.ensures ∙ c.if-is_same.true))

pub loop-other-preserved : goal.loop-other-preserved
loop-other-preserved c = in_next _ _ c.loop-other.other-index _ c.loop-other.invariant c.loop-other-test.true (sym c.is_same.ensures ∙ c.if-is_same.false)

pub returns : goal.returns
returns c = sym (in_end _ _ c.loop-other.other-index c.loop-other.invariant c.loop-other-test.false)
