use Rattle.std.proofs.Common.{refl}
use Rattle.rule_instances.proofs.Going.{stop_take, go_take}
use Rattle.rule_instances.proofs.walk.State.take.Goals as goal

pub returns-in_default : goal.returns-in_default
returns-in_default c = λ ts l tree st is m. stop_take c.args.sort (c.in_default.ensures.none ts l tree is)

pub returns : goal.returns
returns c = λ ts l tree st is m. go_take c.args.sort m (c.in-Some.ensures.some ts l tree is) (record { terms = c.in_ok-push.ensures.items; writes = refl; keys = refl; ty = refl; number = refl; column = refl; declared = refl; body = refl })
