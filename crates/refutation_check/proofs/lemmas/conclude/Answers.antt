use Rattle.refutation_check.proofs.Verdicts.{within, steps_long}
use Rattle.refutation_check.proofs.LemmaAnswers.{concludes_by, some_loaded}
use Rattle.refutation_check.proofs.lemmas.conclude.Goals as goal

pub first_failure-failure-requires-clause-within : goal.first_failure-failure-requires-clause-within
first_failure-failure-requires-clause-within c =
    within c.load_steps.new.space c.in_ok-loaded.loaded (some_loaded c.args.theory c.args.names.now c.args.steps.now c.args.space.now c.load_steps.new.space c.in_ok-loaded.loaded c.requires.lemma c.in_ok-loaded.ensures.loaded) c.in_ok-loaded.ensures.began

pub first_failure-failure-requires-clause-count : goal.first_failure-failure-requires-clause-count
first_failure-failure-requires-clause-count c =
    steps_long c.load_steps.new.space c.in_ok-loaded.loaded (some_loaded c.args.theory c.args.names.now c.args.steps.now c.args.space.now c.load_steps.new.space c.in_ok-loaded.loaded c.requires.lemma c.in_ok-loaded.ensures.loaded) c.in_ok-loaded.ensures.began

pub returns-clause-concludes : goal.returns-clause-concludes
returns-clause-concludes c =
    concludes_by c.args.theory c.args.lemmas.now.clauses.items c.args.names.now c.args.steps.now c.args.space.now c.load_steps.new.space c.in_ok-loaded.loaded c.load_steps.ensures.kept c.in_ok-loaded.ensures.loaded c.in_ok-loaded.ensures.began
    c.first_failure-failure.result c.conclusion-clause.result c.first_failure-failure.ensures c.conclusion-clause.ensures
