use Rattle.method.specs.declared.program.StructInfo.{StructInfo}
use Rattle.condition_meaning.specs.Languages.{struct_scene, invariant_formula}
use Rattle.annotation_scenes.specs.Scenes.{IsScene}
use Rattle.condition_annotations.proofs.Mapped.{Mapped}
use Rattle.program_language.proofs.invariants.each_invariant.Given as goal

abbrev pub invariant-loop-info : goal.invariant-loop-info
invariant-loop-info l = Mapped (λ (s : Unit {0}). IsScene l.fn.graph l.scene struct_scene) (λ (s : Unit {0}) (x : StructInfo). invariant_formula l.program x) l.fn.graph l.graph l.structs l.all.items l.info-index
