use Rattle.std.proofs.Common.{refl}
use Rattle.rule_instances.proofs.Going.{stop_any, go_any}
use Rattle.rule_instances.proofs.walk.State.take_any.Goals as goal

pub returns-in_default : goal.returns-in_default
returns-in_default c = λ ts l tree st is m. stop_any (c.in_default.ensures.none ts l tree is)

pub returns : goal.returns
returns c = λ ts l tree st is m. go_any m (c.in-Some.ensures.some ts l tree is) (record { terms = c.in_ok-push.ensures.items; writes = refl; keys = refl; ty = refl; number = refl; column = refl; declared = refl; body = refl })
