use Rattle.std.proofs.Common.{refl}
use Rattle.rule_instances.proofs.Places.{no_annotation, an_annotation}
use Rattle.rule_instances.proofs.annotations.annotation_at.Goals as goal

pub returns-in_default : goal.returns-in_default
returns-in_default c = λ fs all. no_annotation c.args.place all c.in_default.ensures

pub returns : goal.returns
returns c = λ fs all. an_annotation c.args.graph.now c.args.place all c.in-Some.ensures refl refl
