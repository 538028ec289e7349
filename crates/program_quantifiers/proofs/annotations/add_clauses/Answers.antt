use Rattle.method.specs.declared.program.Clause.{Clause}
use Rattle.conditions.specs.Annotations.{Scene}
use Rattle.conditions.specs.Quantified.{spec_quantifiers}
use Rattle.annotation_scenes.specs.Scenes.{IsScene}
use Rattle.annotation_scenes.proofs.Scenes.{scene_later}
use Rattle.program_quantifiers.proofs.Adding.{row_first, row_next, row_last}
use Rattle.program_quantifiers.proofs.annotations.add_clauses.Goals as goal

pub loop-clause-init : goal.loop-clause-init
loop-clause-init c = row_first (IsScene c.args.list.now.graph c.args.scene.now) (λ (s : Scene) (x : Clause). spec_quantifiers c.args.program.now x.spec s) c.args.list.now c.args.clauses.now

pub loop-clause-preserved : goal.loop-clause-preserved
loop-clause-preserved c =
    row_next (IsScene c.args.list.now.graph c.args.scene.now) (λ (s : Scene) (x : Clause). spec_quantifiers c.args.program.now x.spec s) c.args.list.now c.loop-clause.list _ c.args.clauses.now c.loop-clause.clause-index c.clause-item.result c.clause-item.result c.loop-clause.invariant c.loop-clause-test.true c.clause-item.is
    (λ s known later. c.in_ok-add_annotation.ensures s (scene_later later known))

pub returns : goal.returns
returns c = λ s h. row_last c.loop-clause.invariant c.loop-clause-test.false s h
