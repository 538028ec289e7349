use Rattle.std.proofs.Common.{arith}
use Rattle.condition_formulas.proofs.Rows.{later_is}
use Rattle.upgrade_blocks.proofs.Held.{ids_first, ids_next, ids_end, later_then}
use Rattle.upgrade_blocks.proofs.blocks.number_all.Goals as goal

pub loop-i-init : goal.loop-i-init
loop-i-init c = record { later = λ n f s. s; shown = λ fs all. ids_first c.args.graph.now c.args.target.now c.args.roots.now _ fs c.new-ids.ensures.items }

pub returns-in_err-id-clause-later : goal.returns-in_err-id-clause-later
returns-in_err-id-clause-later c = later_then c.args.target.now c.loop-i.target c.number.new.target c.loop-i.invariant.later (later_is c.number.ensures.later)

pub returns-in_err-push-clause-later : goal.returns-in_err-push-clause-later
returns-in_err-push-clause-later c = later_then c.args.target.now c.loop-i.target c.number.new.target c.loop-i.invariant.later (later_is c.number.ensures.later)

pub loop-i-preserved : goal.loop-i-preserved
loop-i-preserved c = record {
  later = later_then c.args.target.now c.loop-i.target c.number.new.target c.loop-i.invariant.later (later_is c.number.ensures.later);
  shown = λ fs all.
      ids_next c.args.graph.now c.loop-i.target c.number.new.target c.args.roots.now c.loop-i.ids.items c.push.new.self.items fs c.loop-i.i c.root_at.result c.in_ok-id.id c.root_at.ensures
      (later_is c.number.ensures.later) c.in_ok-id.ensures.stands c.in_ok-push.ensures.items all (c.loop-i.invariant.shown fs all);
}

pub returns-clause-stands : goal.returns-clause-stands
returns-clause-stands c = λ fs all. ids_end c.args.graph.now c.loop-i.target c.args.roots.now c.loop-i.ids.items fs c.loop-i.i (omega (arith, c.loop-i-test.false)) all (c.loop-i.invariant.shown fs all)
