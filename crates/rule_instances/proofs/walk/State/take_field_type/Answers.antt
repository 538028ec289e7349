use Rattle.std.proofs.Common.{refl}
use Rattle.rule_instances.proofs.Going.{stop_field_type, go_field_type}
use Rattle.rule_instances.proofs.walk.State.take_field_type.Goals as goal

pub returns-in_default : goal.returns-in_default
returns-in_default c = λ numbers ts l tree st is m. stop_field_type c.args.self.now.column is.program m.place c.in_default.ensures

pub returns : goal.returns
returns c = λ numbers ts l tree st is m. go_field_type m is.program c.in-Some.ensures refl refl refl refl refl refl refl refl
