use Rattle.std.specs.Prelude.{◌≤◌, length}
use Rattle.std.proofs.Common.{refl, arith}
use Rattle.condition_code.specs.States.{IsEntry}
use Rattle.condition_code.proofs.States.{entry_later}
use Rattle.condition_claims.specs.Pieces.{with_conjunct}
use Rattle.condition_claims.proofs.Each.{folds_none, folds_next, folds_last, next_entry, entries_long}
use Rattle.condition_claims.proofs.heaps.record_shapes.Goals as goal

pub loop-entry-init : goal.loop-entry-init
loop-entry-init c = folds_none

pub loop-entry-preserved : goal.loop-entry-preserved
loop-entry-preserved c =
    folds_next (IsEntry c.args.graph.now c.entry-item.result) (with_conjunct c.args.program.now) c.loop-entry.invariant (λ d e es h. refl) (λ es all. next_entry c.loop-entry.entry-index _ all c.loop-entry-test.true c.entry-item.is) c.in_ok-recording.ensures.later
    (λ d e h known is hh. c.in_ok-recording.ensures.stands d e h (c.loop-entry.invariant.later _ _ known) (entry_later c.loop-entry.invariant.later is) hh)

pub returns-clause-stands : goal.returns-clause-stands
returns-clause-stands c = λ d es h hd all hh.
    let long : length es ≤ c.loop-entry.entry-index = omega (arith, entries_long all, c.loop-entry-test.false) in
    folds_last c.loop-entry.invariant (λ s h. refl) d es h long hd all hh
