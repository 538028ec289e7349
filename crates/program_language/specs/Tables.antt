-- The formulas of structs and of shapes. Own.
use Rattle.std.specs.Prelude.{List, map}
use Rattle.method.specs.declared.program.Program.{Program}
use Rattle.method.specs.declared.program.Shape.{Shape}
use Rattle.method.specs.declared.program.StructInfo.{StructInfo}
use Rattle.terms.specs.Formula.{Formula}
use Rattle.condition_meaning.specs.Languages.{invariant_formula, conjunct_formula}

abbrev pub struct_formulas : Program → List StructInfo → List Formula
struct_formulas p structs = map (invariant_formula p) structs

abbrev pub shape_formulas : Program → List Shape → List Formula
shape_formulas p shapes = map (conjunct_formula p) shapes
