use Rattle.std.specs.Prelude.{List, ℤ}
use Rattle.std.proofs.Common.{subst}
use Rattle.std.specs.Int.{w128}
use Rattle.std.proofs.lemmas.Int.{to_z-of_z}
use Rattle.rule_instances.specs.Instances.{Runs}
use Rattle.rule_instances.proofs.Onward.{instantiated}
use Rattle.rule_instances.proofs.instances.instance.Goals as goal

pub returns-clause-exact : goal.returns-clause-exact
returns-clause-exact c =
    let runs = subst (λ (zs : List ℤ). Runs c.args.block.now c.steps_of-steps.result.now c.args.graph.now c.run.new.graph zs c.in_ok-id.id) c.new.ensures c.in_ok-id.ensures.exact in
    instantiated c.args.number c.args.part c.args.args.now (rw (to_z-of_z w128 c.args.number c.ranges.number) at (rw (to_z-of_z w128 c.args.part c.ranges.part) at c.steps_of-steps.ensures)) runs
