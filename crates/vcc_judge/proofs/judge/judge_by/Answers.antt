use Rattle.std.proofs.Common.{arith, take}
use Rattle.std.proofs.lemmas.Result.{err_from_is_err_and}
use Rattle.vcc_judge.proofs.Trials.{all_tried, taken_more, unready_judged}
use Rattle.vcc_judge.proofs.judge.judge_by.Goals as goal

pub returns-in_err-trial : goal.returns-in_err-trial
returns-in_err-trial c =
    let q = err_from_is_err_and c.from_residual.result c.from_residual.ensures.1 in
    rw (q.1, q.2) (unready_judged c.args.theory c.args.lemmas.now c.args.blocks.now _ c.in_err-trial.ensures)

pub loop-block-init : goal.loop-block-init
loop-block-init c = record { tried = c.in_ok-trial.ensures.0; ready = c.in_ok-trial.ensures.1 }

pub take_block-requires-clause-ready : goal.take_block-requires-clause-ready
take_block-requires-clause-ready c = record { lemmas = c.args.lemmas.now; ready = c.loop-block.invariant.ready }

pub loop-block-preserved : goal.loop-block-preserved
loop-block-preserved c = record {
  tried = taken_more c.args.theory.program.now c.args.lemmas.now c.take_block.new.self c.args.blocks.now c.loop-block.block-index c.block-item.result c.loop-block-test.true c.block-item.is
      (c.in_ok-take_block.ensures.tried c.args.lemmas.now (take c.loop-block.block-index c.args.blocks.now) c.loop-block.invariant.ready c.loop-block.invariant.tried);
  ready = c.in_ok-take_block.ensures.ready c.args.lemmas.now c.loop-block.invariant.ready;
}

pub returns : goal.returns
returns c =
    all_tried c.args.theory.program.now c.args.lemmas.now c.args.labels.now c.requires.labels c.loop-block.trial c.args.blocks.now c.loop-block.block-index c.into_outcome.result c.requires.count (omega arith) c.into_outcome.ensures c.loop-block.invariant.tried
