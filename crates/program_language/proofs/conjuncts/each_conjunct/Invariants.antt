use Rattle.method.specs.declared.program.Shape.{Shape}
use Rattle.condition_meaning.specs.Languages.{conjunct_formula}
use Rattle.condition_annotations.proofs.Mapped.{Mapped}
use Rattle.program_language.proofs.conjuncts.each_conjunct.Given as goal

abbrev pub invariant-loop-shape : goal.invariant-loop-shape
invariant-loop-shape l = Mapped (λ (s : Unit {0}). Unit {0}) (λ (s : Unit {0}) (x : Shape). conjunct_formula l.program x) l.fn.graph l.graph l.shapes l.all.items l.shape-index
