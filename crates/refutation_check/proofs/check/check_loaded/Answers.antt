use Rattle.std.proofs.Common.{◌≡◌, true, sym, ◌∙◌}
use Rattle.block_layout.specs.Loading.{has_steps}
use Rattle.refutation_check.proofs.Verdicts.{within}
use Rattle.refutation_check.proofs.check.check_loaded.Goals as goal

pub first_failure-failure-requires-clause-within : goal.first_failure-failure-requires-clause-within
first_failure-failure-requires-clause-within c =
    let so : has_steps c.args.loaded.now.stop ≡ true = sym c.has_steps.ensures ∙ c.if-not-has_steps.false in
    within c.args.space.now c.args.loaded.now c.requires.loaded so
