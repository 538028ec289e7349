-- What values of the code stand for.
use Rattle.typed_program.specs.Shapes as spec
use Rattle.typed_program.specs.Views as seen
use Rattle.elab_shapes.specs.Parts as parts
use Rattle.elab_shapes.specs.declared.sorts.Sorts.{Sorts}
use Rattle.elab_shapes.specs.declared.parts.Part.{Part}

-- Own: the sorts of a function's variables, without where they lie in memory
abbrev pub sorts : Sorts → spec.Sorts
sorts s = record { variables = s.variables.items; value = s.value }

-- Own: a part of an annotation, likewise
abbrev pub part : Part → parts.Part
part p = record { spec = seen.spec p.spec.now; is_conjunct = p.is_conjunct }
