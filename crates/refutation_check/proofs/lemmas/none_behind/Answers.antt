use Rattle.std.proofs.Common.{◌∙◌, sym, ap, length, arith, subst}
use Rattle.refutation_check.proofs.Theorems.{one_none_more, none_left}
use Rattle.refutation_check.proofs.lemmas.none_behind.Goals as goal

pub loop-held-preserved : goal.loop-held-preserved
loop-held-preserved c = one_none_more c.loop-held.held.clauses.items c.add.new.self.clauses.items _ (omega (arith, c.loop-held-test.true)) c.in_ok-add.ensures ∙ c.loop-held.invariant

pub returns : goal.returns
returns c = sym (none_left c.loop-held.held.clauses.items _ (omega (arith, c.loop-held-test.false))) ∙ c.loop-held.invariant
