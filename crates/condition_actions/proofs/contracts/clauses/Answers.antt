use Rattle.conditions.specs.Annotations.{formula}
use Rattle.annotation_scenes.specs.Scenes.{IsScene}
use Rattle.condition_annotations.proofs.Mapped.{mapped_next, mapped_last}
use Rattle.annotation_scenes.proofs.Scenes.{scene_later}
use Rattle.condition_actions.proofs.contracts.clauses.Goals as goal

pub loop-clause-preserved : goal.loop-clause-preserved
loop-clause-preserved c =
    mapped_next (IsScene c.args.graph.now c.args.scene.now) (λ s d. formula c.args.program.now d.spec s) c.args.graph.now c.loop-clause.graph c.formula.new.graph c.args.list.now c.loop-clause.truths.items c.push.new.self.items c.loop-clause.clause-index c.in_ok-truth.truth c.clause-item.result c.clause-item.result c.loop-clause.invariant c.loop-clause-test.true c.clause-item.is c.in_ok-truth.ensures.later
    (λ s known. c.in_ok-truth.ensures.stands s (scene_later c.loop-clause.invariant.later known)) c.in_ok-push.ensures.items

pub returns-clause-stands : goal.returns-clause-stands
returns-clause-stands c = λ b s known. mapped_last c.loop-clause.invariant c.loop-clause-test.false s known
