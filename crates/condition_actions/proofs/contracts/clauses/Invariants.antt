use Rattle.conditions.specs.Annotations.{formula}
use Rattle.annotation_scenes.specs.Scenes.{IsScene}
use Rattle.condition_annotations.proofs.Mapped.{Mapped}
use Rattle.condition_actions.proofs.contracts.clauses.Given as goal

abbrev pub invariant-loop-clause : goal.invariant-loop-clause
invariant-loop-clause l = Mapped (IsScene l.fn.graph l.scene) (λ s d. formula l.program d.spec s) l.fn.graph l.graph l.list l.truths.items l.clause-index
