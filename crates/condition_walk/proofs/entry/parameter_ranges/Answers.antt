use Rattle.std.proofs.Common.{refl, ap, sym}
use Rattle.method.specs.declared.program.VariableInfo.{VariableInfo}
use Rattle.condition_walk.proofs.Entries.{extended, ranges_first, ranges_next, ranges_short, ranges_last}
use Rattle.condition_walk.proofs.entry.parameter_ranges.Goals as goal

pub loop-i-init : goal.loop-i-init
loop-i-init c = ranges_first c.new-all.ensures.items

pub loop-i-preserved : goal.loop-i-preserved
loop-i-preserved c =
    ranges_next c.index-variables-i.result _ c.index-variables-i.is refl (ap (λ (u : VariableInfo). u.ty) (sym c.index-variables-i.is)) c.loop-i.invariant c.loop-i-test.true c.if-i-args.false c.in_ok-within.ensures.later c.in_ok-within.ensures.stands (extended _ c.in_ok-extend_from_slice.ensures.items c.deref.ensures.value)

pub returns-then-i-args-clause-stands : goal.returns-then-i-args-clause-stands
returns-then-i-args-clause-stands c = ranges_short c.loop-i.invariant c.if-i-args.true

pub returns-clause-stands : goal.returns-clause-stands
returns-clause-stands c = ranges_last c.loop-i.invariant c.loop-i-test.false
