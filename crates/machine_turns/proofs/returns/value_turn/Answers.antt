use Rattle.std.proofs.Common.{subst, sym, ap}
use Rattle.method.specs.Expressions.{after}
use Rattle.method.specs.Machine.{return_turn}
use Rattle.machine_values.specs.Spots.{heap_at}
use Rattle.machine_turns.specs.Turns.{TurnsTo, running}
use Rattle.machine_turns.proofs.returns.value_turn.Goals as goal

pub returns : goal.returns
returns c x y finite all code below are =
    let a = c.args in
    let r = a.here.now in
    let h = heap_at y r.heap.now in
    let f = running x r all in
    subst (TurnsTo c.return_turn.result f code below h) (sym (ap (λ o. after o (λ v. return_turn r.program.now a.line v f below h)) (c.in_ok-v.ensures x y finite))) (c.return_turn.ensures x y finite all code below are)
