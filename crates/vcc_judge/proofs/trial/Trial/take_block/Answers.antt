use Rattle.std.proofs.Common.{refl}
use Rattle.vcc_judge.proofs.Trials.{tried_beyond, tried_decided, tried_more}
use Rattle.vcc_judge.proofs.trial.Trial.take_block.Goals as goal

pub returns-then-place-labels-clause-tried : goal.returns-then-place-labels-clause-tried
returns-then-place-labels-clause-tried c = λ lemmas blocks ready tried.
    tried_beyond c.args.theory.program.now lemmas c.args.labels.now c.requires.labels c.args.self.now c.args.self.now.blocks c.in-Some.next c.args.block.now refl c.in-Some.ensures.1 c.if-place-labels.true blocks tried

pub returns-then-not-is_yes-clause-tried : goal.returns-then-not-is_yes-clause-tried
returns-then-not-is_yes-clause-tried c = λ lemmas blocks ready tried.
    tried_decided c.args.theory.program.now lemmas c.args.labels.now c.requires.labels c.args.self.now c.args.self.now.blocks c.in-Some.next c.args.block.now refl c.in-Some.ensures.1 c.if-not-is_yes.ensures blocks tried

pub returns-clause-tried : goal.returns-clause-tried
returns-clause-tried c = λ lemmas blocks ready tried.
    tried_more c.args.theory.program.now lemmas c.args.labels.now c.requires.labels c.args.self.now c.judge_next.new.self c.args.self.now.blocks c.in-Some.next c.label_at-label.result c.args.block.now c.judge_next.result
    refl c.in-Some.ensures.1 c.if-place-labels.false c.label_at-label.ensures c.if-not-is_yes.ensures c.judge_next.ensures.blocks (λ g rest remains. c.judge_next.ensures.judges lemmas g rest ready remains) blocks tried
