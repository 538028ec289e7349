use Rattle.std.proofs.Common.{sym, ◌∙◌}
use Rattle.condition_formulas.proofs.Rows.{given_ids, more, none, same_ids}
use Rattle.condition_stores.proofs.exchange.range_checks.Goals as goal

pub returns-then-counts-clause-stands : goal.returns-then-counts-clause-stands
returns-then-counts-clause-stands c = λ y hy. rw (sym c.counts.ensures ∙ c.if-counts.true) (given_ids c.listed.result c.listed.ensures (more (c.in_ok-fits.ensures.stands _ hy) none))

pub returns-clause-stands : goal.returns-clause-stands
returns-clause-stands c = λ y hy. rw (sym c.counts.ensures ∙ c.if-counts.false) (same_ids c.new.ensures.items none)
