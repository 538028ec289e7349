use Rattle.std.proofs.Common.{sym, ◌∙◌}
use Rattle.condition_stores.proofs.stores.listed_change.Goals as goal

pub returns-then-is_approved-clause-stands : goal.returns-then-is_approved-clause-stands
returns-then-is_approved-clause-stands c = λ b x h hb hx hh. rw (sym c.is_approved.ensures ∙ c.if-is_approved.true) (c.approved_change.ensures.stands b h x hb hh hx)

pub returns-clause-stands : goal.returns-clause-stands
returns-clause-stands c = λ b x h hb hx hh. rw (sym c.is_approved.ensures ∙ c.if-is_approved.false) (c.is_listed.ensures.stands b x hb hx)
