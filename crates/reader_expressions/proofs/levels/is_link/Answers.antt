use Rattle.std.proofs.Common.{◌≡◌, true, ap, sym, ◌∙◌, subst}
use Rattle.reader_expressions.specs.Levels.{tier_of, mode_of}
use Rattle.reader_expressions.proofs.Links.{question, here, nothing_here}
use Rattle.reader_expressions.proofs.levels.is_link.Goals as goal

pub returns-then-rank-eq7 : goal.returns-then-rank-eq7
returns-then-rank-eq7 c = c.next_is.ensures ∙ question (mode_of c.args.mode) (tier_of c.args.tier) _ (sym c.rank.ensures ∙ c.if-rank-eq7.true)

pub returns-in-Some : goal.returns-in-Some
returns-in-Some c = let w = c.in-Some.ensures.some in here (mode_of c.args.mode) (tier_of c.args.tier) c.in-Some.field-0 _ w.0 w.1 w.2

pub returns-in-None : goal.returns-in-None
returns-in-None c = nothing_here _ (tier_of c.args.tier) (λ e. c.if-rank-eq7.false (c.rank.ensures ∙ e)) c.in-None.ensures.none
