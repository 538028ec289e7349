-- The conditions of a program, one for each of its labels and in their order. From VCC and CAV 2010.
use Rattle.std.specs.Prelude.{ℕ, ◌+◌, ◌==◌, not, ◌&&◌, if◌then◌else◌, List, [], ◌∷◌, length, flat_map, Option, Some, None, slice_get}
use Rattle.method.specs.declared.program.StructInfo.{StructInfo}
use Rattle.method.specs.declared.program.FunctionInfo.{FunctionInfo}
use Rattle.method.specs.declared.program.Item.{Item}
use Rattle.method.specs.declared.program.Item.TheVariants.{Struct, Function}
use Rattle.method.specs.declared.program.Program.{Program}
use Rattle.method.specs.Labels.{ProgramLabel, program_labels}
use Rattle.terms.specs.Formula.{Formula}
use Rattle.conditions.specs.Paths as path
use Rattle.conditions.specs.Admissible.{reflexive, stable}
use Rattle.conditions.specs.Statements.{run}

-- a struct with an invariant, which may be one of approval, has two; one without has none
abbrev pub struct_conditions : ℕ → Option StructInfo → List Formula
struct_conditions n None = []
struct_conditions n (Some s) = if length s.invariants.items == 0 && not s.has_approval then [] else reflexive (n + 3) ∷ stable (n + 3) ∷ []

-- the conditions of a function's checks
abbrev pub function_conditions : Program → Option FunctionInfo → List Formula
function_conditions p None = []
function_conditions p (Some f) = path.conditions [] (run p f).path

-- those of a type or function
abbrev pub item_conditions : Program → Item → List Formula
item_conditions p (Struct n) = struct_conditions n (slice_get p.structs.items n)
item_conditions p (Function n) = function_conditions p (slice_get p.functions.items n)

-- those of all items, in the order of the text
abbrev pub formulas : Program → List Formula
formulas p = flat_map (item_conditions p) p.items.items

-- a condition, with the label of its check
pub record Condition : Type 0 where
  pub label : ProgramLabel
  pub formula : Formula

-- each formula with the label at its place
abbrev pub label_formulas : List ProgramLabel → List Formula → List Condition
label_formulas [] fs = []
label_formulas (l ∷ ls) [] = []
label_formulas (l ∷ ls) (f ∷ fs) = record { label = l; formula = f } ∷ label_formulas ls fs

-- the conditions of a program
abbrev pub conditions : Program → List Condition
conditions p = label_formulas (program_labels p) (formulas p)
