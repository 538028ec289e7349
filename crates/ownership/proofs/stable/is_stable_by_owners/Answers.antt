use Rattle.std.proofs.Common.{sym, ◌∙◌}
use Rattle.object_types.specs.Lookups.{heap_of}
use Rattle.method.specs.StableSet.{root}
use Rattle.ownership.proofs.Owners.{owned_stays}
use Rattle.ownership.proofs.stable.is_stable_by_owners.Goals as goal

pub loop-left-init : goal.loop-left-init
loop-left-init c = λ s. s

pub returns-then-wrapped : goal.returns-then-wrapped
returns-then-wrapped c = λ yes. c.loop-left.invariant (root (sym c.wrapped.ensures ∙ c.if-wrapped.true))

pub loop-left-preserved : goal.loop-left-preserved
loop-left-preserved c = λ s.
    c.loop-left.invariant (owned_stays c.args.program.now (heap_of c.args.h.now) _ c.loop-left.at c.view.result.owner c.members.result.now c.members.ensures (sym c.is_among.ensures ∙ c.if-not-is_among.false) s)
