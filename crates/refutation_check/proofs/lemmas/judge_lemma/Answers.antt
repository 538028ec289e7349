use Rattle.std.proofs.Common.{◌≤◌, ℕ, List, length, take, ap, sym, ◌∙◌, subst}
use Rattle.cert_format.specs.declared.certificate.Step.{Step}
use Rattle.block_layout.proofs.Spaces.{later_front, later_longer}
use Rattle.refutation_check.specs.Judging.{Concludes}
use Rattle.refutation_check.proofs.LemmaAnswers.{released_keeps}
use Rattle.refutation_check.proofs.lemmas.judge_lemma.Goals as goal

pub release-requires : goal.release-requires
release-requires c =
    subst (λ (n : ℕ). n ≤ length c.conclude-clause.new.space.graph) (sym c.mark-mark.ensures) (later_longer c.args.space.now.graph c.conclude-clause.new.space.graph c.known.ensures c.known-2.ensures c.conclude-clause.ensures.kept.later)

pub returns-clause-concludes : goal.returns-clause-concludes
returns-clause-concludes c =
    subst (λ (ss : List Step). Concludes c.args.theory c.args.lemmas.now.clauses.items c.args.names.now ss c.args.space.now c.conclude-clause.result) c.steps.ensures c.conclude-clause.ensures.concludes

pub returns-clause-released : goal.returns-clause-released
returns-clause-released c =
    c.release.ensures.graph ∙ ap (λ n. take n c.conclude-clause.new.space.graph) c.mark-mark.ensures
    ∙ later_front c.args.space.now.graph c.conclude-clause.new.space.graph c.known.ensures c.known-2.ensures c.conclude-clause.ensures.kept.later

pub returns-clause-kept : goal.returns-clause-kept
returns-clause-kept c =
    released_keeps c.args.theory.language.now c.args.space.now c.conclude-clause.new.space c.release.new.self c.conclude-clause.ensures.kept
    (c.release.ensures.graph ∙ ap (λ n. take n c.conclude-clause.new.space.graph) c.mark-mark.ensures
    ∙ later_front c.args.space.now.graph c.conclude-clause.new.space.graph c.known.ensures c.known-2.ensures c.conclude-clause.ensures.kept.later) c.release.ensures.sorts
