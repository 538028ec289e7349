use Rattle.std.proofs.Common.{◌≡◌, true, ap, sym, ◌∙◌, subst}
use Rattle.reader_expressions.specs.Levels.{tier_of, mode_of}
use Rattle.reader_expressions.proofs.Links.{none_here, not_own, owned}
use Rattle.reader_expressions.proofs.levels.operator_at.Goals as goal

pub returns-in_default-clause-none : goal.returns-in_default-clause-none
returns-in_default-clause-none c = none_here (mode_of c.args.mode) (tier_of c.args.tier) _ (c.in_default.ensures)

pub returns-then-not-is_own-clause-none : goal.returns-then-not-is_own-clause-none
returns-then-not-is_own-clause-none c = not_own (mode_of c.args.mode) (tier_of c.args.tier) c.in-Some.operator _ (c.in-Some.ensures) (sym c.is_own.ensures ∙ c.if-not-is_own.true)

pub returns-clause-some : goal.returns-clause-some
returns-clause-some c = let w = owned _ _ _ _ (sym c.is_own.ensures ∙ c.if-not-is_own.false) in (c.in-Some.ensures, w.0, w.1)
