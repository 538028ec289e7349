use Rattle.std.proofs.Common.{refl}
use Rattle.rule_instances.proofs.Bodies.{no_conjunct, go_conjunct}
use Rattle.rule_instances.proofs.walk.State.take_conjunct.Goals as goal

pub returns-in_default : goal.returns-in_default
returns-in_default c = λ numbers ts l tree st is m. no_conjunct m (c.in_default.ensures l is.language)

pub returns : goal.returns
returns c = λ numbers ts l tree st is m. go_conjunct m (c.in-Some.ensures l is.language) (record { terms = refl; writes = refl; keys = refl; ty = refl; number = refl; column = refl; declared = refl; body = refl })
