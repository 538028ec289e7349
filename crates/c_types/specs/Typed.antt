-- What typing a source answers. Own.
use Rattle.std.specs.Prelude.{◌≡◌, ℕ, List, Some, None}
use Rattle.c_syntax.specs.declared.token.Span.{Span}
use Rattle.c_syntax.specs.Items.{Item}
use Rattle.typing_spec.specs.First.{IsWellTyped, first_broken}
use Rattle.c_source.specs.Sources.{IsText}
use Rattle.method.specs.declared.program.Program as held
use Rattle.method.specs.Typing.{WellTyped}
use Rattle.method.specs.Scopes.{Scoped}
use Rattle.typing_expressions.specs.Views.{broken}
use Rattle.typed_program.specs.Tables as tables
use Rattle.typed_program.specs.Trees.{Program}
use Rattle.typed_program.specs.Views as seen
use Rattle.typed_laws.specs.Fits.{AnnotationsFit}
use Rattle.c_types.specs.declared.typing.TypeFault.{TypeFault}
use Rattle.c_types.specs.declared.typing.TypeFault.TheVariants as faults

-- a source breaks no typing rule, and these are its tables. Own
pub record IsTyped (items : List Item) (end : Span) (p : Program) : Type 0 where
  pub unbroken : first_broken items end ≡ None
  pub tables_are : p ≡ tables.program items

-- the fault, where it is no want of memory, is the first typing rule that a source breaks. Own
abbrev pub IsTypeFault : List Item → Span → TypeFault → Type 0
IsTypeFault items end (faults.Rule b) = first_broken items end ≡ Some (broken b)
IsTypeFault items end faults.OutOfMemory = Unit {0}

-- The bytes read as this program: they are a text of the language that breaks no typing rule, and these are its tables. Own
pub record Reads (bytes : List ℕ) (p : Program) : Type 0 where
  pub items : List Item
  pub end : Span
  pub text : IsText bytes items end
  pub typed : IsWellTyped items end
  pub tables_are : p ≡ tables.program items

-- the program that the bytes read as, whose tables are well formed, its variables in their scopes, and its annotations fit them. Own
pub record IsProgramOf (bytes : List ℕ) (p : held.Program) : Type 0 where
  pub reads : Reads bytes (seen.program p)
  pub well_formed : WellTyped p
  pub scoped : Scoped p
  pub annotations : AnnotationsFit (seen.program p)

-- Bytes read as at most one program. Own
abbrev pub OneProgram : Type 0
OneProgram = (bytes : List ℕ) (p q : Program) → Reads bytes p → Reads bytes q → p ≡ q
