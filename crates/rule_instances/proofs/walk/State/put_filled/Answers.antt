use Rattle.std.proofs.Common.{refl}
use Rattle.rule_instances.proofs.Bodies.{no_body, filled}
use Rattle.rule_instances.proofs.walk.State.put_filled.Goals as goal

pub returns-in_default-clause-filled : goal.returns-in_default-clause-filled
returns-in_default-clause-filled c = λ st gs m all. no_body m c.in_default.is

pub returns-clause-filled : goal.returns-clause-filled
returns-clause-filled c = λ st gs m all. filled c.in_ok-id.id c.args.count m c.in-Some.is all c.in_ok-id.ensures.stands c.in_ok-id.ensures.later c.in_ok-replace.ensures (record { writes = refl; keys = refl; ty = refl; number = refl; column = refl; declared = refl; body = refl })
