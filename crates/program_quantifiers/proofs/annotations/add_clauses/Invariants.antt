use Rattle.method.specs.declared.program.Clause.{Clause}
use Rattle.conditions.specs.Annotations.{Scene}
use Rattle.conditions.specs.Quantified.{spec_quantifiers}
use Rattle.annotation_scenes.specs.Scenes.{IsScene}
use Rattle.program_quantifiers.proofs.Adding.{AddsUpTo}
use Rattle.program_quantifiers.proofs.annotations.add_clauses.Given as goal

abbrev pub invariant-loop-clause : goal.invariant-loop-clause
invariant-loop-clause l = AddsUpTo (IsScene l.fn.list.graph l.scene) (λ (s : Scene) (c : Clause). spec_quantifiers l.program c.spec s) l.fn.list l.list l.clauses l.clause-index
