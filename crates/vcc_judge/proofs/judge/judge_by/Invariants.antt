use Rattle.std.proofs.Common.{take}
use Rattle.vcc_judge.specs.Shows.{IsReady}
use Rattle.vcc_judge.specs.Trials.{IsTried}
use Rattle.vcc_judge.proofs.judge.judge_by.Given as goal

abbrev pub invariant-loop-block : goal.invariant-loop-block
invariant-loop-block l = record {
  tried : IsTried l.theory.program.now l.fn.lemmas l.trial (take l.block-index l.blocks);
  ready : IsReady l.theory l.fn.lemmas l.trial.room;
}
