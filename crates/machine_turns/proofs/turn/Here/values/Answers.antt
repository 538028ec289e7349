use Rattle.std.proofs.Common.{[]}
use Rattle.method.specs.Expressions.{eval_all}
use Rattle.method.specs.Actions.{spot}
use Rattle.machine_values.specs.Items.{YieldsAll}
use Rattle.machine_values.specs.Spots.{heap_at, context_at, spot_at}
use Rattle.machine_turns.proofs.Turning.{at_spot}
use Rattle.machine_turns.proofs.turn.Here.values.Goals as goal

pub returns : goal.returns
returns c x y finite =
    let a = c.args in
    let r = a.self.now in
    at_spot (λ p s. YieldsAll c.eval_all.result (eval_all p s (heap_at y r.heap.now) r.locals.now a.es.now 0)) c.spot-at.result.program.now r.program.now (spot_at x c.spot-at.result) (spot (context_at x r.context.now) [] a.line) c.spot-at.ensures.program (c.spot-at.ensures.spot x) (c.eval_all.ensures 0 x y finite)
