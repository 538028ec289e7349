use Rattle.std.proofs.Common.{arith, length-drop, length-take}
use Rattle.vcc_base.proofs.Writing.{written_more}
use Rattle.vcc_base.proofs.whole.put_all.Goals as goal

pub loop-done-preserved : goal.loop-done-preserved
loop-done-preserved g c =
    record {
      within = grind (arith, length-drop, length-take, c.in_ok-count.ensures.within);
      front = written_more _ _ _ c.args.piece.now c.loop-done.done c.in_ok-count.count c.loop-done.invariant.front c.in_ok-count.ensures.ok;
      never_falls = omega (arith, c.in_ok-count.ensures.never_falls);
    }
