use Rattle.std.proofs.Common.{sym, ◌∙◌}
use Rattle.std.proofs.lemmas.Bool.{true≢false}
use Rattle.upgrade_lemmas.proofs.StepNumbers.{naturals_are, no_naturals}
use Rattle.upgrade_lemmas.proofs.steps.naturals.Goals as goal

pub returns-then-not-are_naturals : goal.returns-then-not-are_naturals
returns-then-not-are_naturals c = no_naturals c.args.numbers.now (λ all. true≢false (sym (c.are_naturals.ensures.1 all) ∙ c.if-not-are_naturals.true))

pub returns : goal.returns
returns c = sym (naturals_are c.args.numbers.now (c.are_naturals.ensures.0 c.if-not-are_naturals.false))
