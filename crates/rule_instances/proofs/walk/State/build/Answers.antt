use Rattle.std.specs.Int.{w128}
use Rattle.std.proofs.lemmas.Int.{to_z-of_z}
use Rattle.std.proofs.Common.{refl, ◌∙◌}
use Rattle.condition_formulas.proofs.Rows.{same_ids}
use Rattle.rule_instances.proofs.Going.{go_build}
use Rattle.rule_instances.proofs.walk.State.build.Goals as goal

pub returns-clause-went : goal.returns-clause-went
returns-clause-went c = λ l tree st numbers m.
    go_build c.args.kind c.args.index c.args.count c.args.tail m c.in_ok-build.ensures.later (c.index-at.ensures.is c.args.graph.now st m) (rw (to_z-of_z w128 c.index-at.result c.index-at.ensures.fits) at (c.in_ok-build.ensures.stands _ _ m.terms (same_ids (c.deref.ensures.value ∙ c.in_ok-behind.ensures) (c.behind.ensures c.args.graph.now st m)))) (record { writes = refl; keys = refl; ty = refl; number = refl; column = refl; declared = refl; body = refl })
