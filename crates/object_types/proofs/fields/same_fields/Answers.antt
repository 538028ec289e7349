use Rattle.std.proofs.Common.{sym, ◌∙◌}
use Rattle.object_types.specs.Fields.{same_kept}
use Rattle.object_types.proofs.FieldChanges.{kept_equal, kept_itself}
use Rattle.object_types.proofs.Equal.{agree_next, elements_differ}
use Rattle.object_types.proofs.fields.same_fields.Goals as goal

pub returns-then-not-is_same : goal.returns-then-not-is_same
returns-then-not-is_same c =
    (λ h. cc, λ e. absurd (elements_differ same_kept _ _ c.loop-i.i _ _ kept_itself c.loop-i-test.true (sym c.is_same.ensures ∙ c.if-not-is_same.true) e))

pub loop-i-preserved : goal.loop-i-preserved
loop-i-preserved c =
    agree_next _ _ c.loop-i.i _ _ c.loop-i.invariant c.loop-i-test.true (kept_equal _ _ (sym c.is_same.ensures ∙ c.if-not-is_same.false))
