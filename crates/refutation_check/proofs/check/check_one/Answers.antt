use Rattle.std.proofs.Common.{◌≤◌, ℕ, length, take, ap, sym, ◌∙◌, subst}
use Rattle.block_layout.proofs.Spaces.{later_front, later_longer}
use Rattle.refutation_check.proofs.Sound.{follows_valid}
use Rattle.refutation_check.proofs.Verdicts.{refuted}
use Rattle.refutation_check.proofs.check.check_one.Goals as goal

pub release-requires : goal.release-requires
release-requires c =
    subst (λ (n : ℕ). n ≤ length c.judge-answer.new.space.graph) (sym c.mark-mark.ensures) (later_longer c.args.space.now.graph c.judge-answer.new.space.graph c.known.ensures c.known-2.ensures c.judge-answer.ensures.kept.later)

pub returns-clause-released : goal.returns-clause-released
returns-clause-released c =
    c.release.ensures.graph ∙ ap (λ n. take n c.judge-answer.new.space.graph) c.mark-mark.ensures
    ∙ later_front c.args.space.now.graph c.judge-answer.new.space.graph c.known.ensures c.known-2.ensures c.judge-answer.ensures.kept.later

pub returns-clause-follows : goal.returns-clause-follows
returns-clause-follows c = λ l lemmas theorems f t s held are n e. record {
  theorems = theorems;
  are = are;
  own = c.args.own.now;
  root = c.args.root;
  numbered = n;
  refutes = refuted l theorems c.args.own.now c.args.root c.args.block.now c.judge-answer.result (c.judge-answer.ensures.answer l theorems t s held) e;
}

pub returns-clause-valid : goal.returns-clause-valid
returns-clause-valid c = λ l lemmas theorems f t s held are n e layered faithful.
    follows_valid l lemmas f c.args.block.now
    (record {
      theorems = theorems;
      are = are;
      own = c.args.own.now;
      root = c.args.root;
      numbered = n;
      refutes = refuted l theorems c.args.own.now c.args.root c.args.block.now c.judge-answer.result (c.judge-answer.ensures.answer l theorems t s held) e;
    }) layered faithful

pub returns-clause-sorts : goal.returns-clause-sorts
returns-clause-sorts c = λ l t s. c.release.ensures.sorts l (c.judge-answer.ensures.kept.known l t.language s)
