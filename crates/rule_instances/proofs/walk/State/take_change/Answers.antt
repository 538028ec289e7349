use Rattle.std.proofs.Common.{refl}
use Rattle.rule_instances.proofs.Going.{stop_heap, stop_change, go_change}
use Rattle.rule_instances.proofs.walk.State.take_change.Goals as goal

pub returns-in_default-clause-went : goal.returns-in_default-clause-went
returns-in_default-clause-went c = λ l tree st is m. stop_heap (c.in_default.ensures.none c.args.graph.now l tree is)

pub returns-in_default-change_of-clause-went : goal.returns-in_default-change_of-clause-went
returns-in_default-change_of-clause-went c = λ l tree st is m. stop_change (c.in-Some.ensures.some c.args.graph.now l tree is) c.in_default-change_of.ensures.none

pub returns-clause-went : goal.returns-clause-went
returns-clause-went c = λ l tree st is m. go_change m (c.in-Some.ensures.some c.args.graph.now l tree is) c.in-Some-change_of.ensures.some c.in_ok-mode.ensures.later c.in_ok-mode.ensures.stands c.in_ok-extend_from_slice.ensures.items (record { writes = refl; keys = refl; ty = refl; number = refl; column = refl; declared = refl; body = refl })
