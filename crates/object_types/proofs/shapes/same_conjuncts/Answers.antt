use Rattle.std.proofs.Common.{sym, ◌∙◌}
use Rattle.object_types.specs.Shapes.{same_entry}
use Rattle.object_types.proofs.Orders.{entry_order}
use Rattle.object_types.proofs.Equal.{agree_next, read_differ}
use Rattle.object_types.proofs.shapes.same_conjuncts.Goals as goal

pub returns-then-not-is_same : goal.returns-then-not-is_same
returns-then-not-is_same c =
    let apart = sym c.is_same.ensures ∙ c.if-not-is_same.true in
    (λ h. cc, λ e. absurd (read_differ same_entry _ _ c.loop-i.i _ _ entry_order.itself c.loop-i-test.true c.index-left-i.is c.index-right-i.is apart e))

pub loop-i-preserved : goal.loop-i-preserved
loop-i-preserved c =
    let one = entry_order.equal _ _ (sym c.is_same.ensures ∙ c.if-not-is_same.false) in
    agree_next _ _ c.loop-i.i _ _ c.loop-i.invariant c.loop-i-test.true (sym c.index-left-i.is ∙ one ∙ c.index-right-i.is)
