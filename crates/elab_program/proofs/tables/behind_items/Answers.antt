use Rattle.std.proofs.Common.{refl, arith}
use Rattle.elab_assignments.specs.Views.{before}
use Rattle.typed_program.specs.Tables as tables
use Rattle.elab_program.specs.Views.{declared}
use Rattle.elab_program.proofs.Steps.{counted, counted_all}
use Rattle.elab_program.proofs.tables.behind_items.Goals as goal

pub loop-x-preserved : goal.loop-x-preserved
loop-x-preserved c =
    counted declared tables.all_items tables.in_item (λ y ys. refl) c.args.all.now c.loop-x.x-index c.x-item.result c.loop-x-test.true c.x-item.is _ _ _ c.in_ok-next.ensures c.loop-x.invariant

pub returns : goal.returns
returns c = counted_all declared tables.all_items tables.in_item (λ y ys. refl) refl c.args.all.now c.loop-x.x-index (omega arith) (before c.loop-x.next) _ c.loop-x.invariant
