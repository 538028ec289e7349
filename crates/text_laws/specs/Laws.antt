-- What the annotations of a typed source meet beside typing and scope. Own: the tests of condition_meaning, which the grammar
-- and the typing rules give of every source.
use Rattle.std.specs.Prelude.{◌≡◌, ℕ, List, Some, slice_get, IsTrue}
use Rattle.object_types.specs.Sets.{every}
use Rattle.c_syntax.specs.declared.token.Span.{Span}
use Rattle.c_syntax.specs.Items.{Item}
use Rattle.typing_spec.specs.First.{IsWellTyped}
use Rattle.method.specs.declared.program.FunctionInfo.{FunctionInfo}
use Rattle.method.specs.declared.program.Program.{Program}
use Rattle.condition_meaning.specs.Annotated.{struct_fits, function_fits, shape_fits, members_fit}
use Rattle.condition_meaning.specs.FunctionWords.{ContractFits}
use Rattle.typed_program.specs.Tables as tables
use Rattle.typed_program.specs.Views as seen
use Rattle.tree_forms.specs.InForm.{in_form}

-- Invariants, contracts, assertions and loop invariants have formulas; the conjuncts of claims have formulas without
-- quantifiers; and what names the members of an object's fixed owned set (VCC manual: `\mine`) stands for references.
pub record TextPasses (p : Program) : Type 0 where
  pub structs : IsTrue (every (struct_fits p) p.structs.items)
  pub functions : IsTrue (every (function_fits p) p.functions.items)
  pub shapes : IsTrue (every (shape_fits p) p.shapes.items)
  pub members : IsTrue (every (members_fit p) p.structs.items)

-- So it is in the typed program of each source that breaks no typing rule.
abbrev pub TextLaw : Type 0
TextLaw =
    (items : List Item) (end : Span) → IsTrue (in_form items) → IsWellTyped items end
    → (p : Program) → seen.program p ≡ tables.program items → TextPasses p

-- The contract of each of its functions fits: its clauses name parameters alone, and what may be written is a reference.
abbrev pub ContractsLaw : Type 0
ContractsLaw =
    (items : List Item) (end : Span) → IsTrue (in_form items) → IsWellTyped items end
    → (p : Program) → seen.program p ≡ tables.program items
    → (k : ℕ) (f : FunctionInfo) → slice_get p.functions.items k ≡ Some f → ContractFits p f
