-- What typing leaves true of a source's tables. Own.
use Rattle.std.specs.Prelude.{◌≡◌, List, IsTrue}
use Rattle.c_syntax.specs.declared.token.Span.{Span}
use Rattle.c_syntax.specs.Items.{Item}
use Rattle.typing_spec.specs.First.{IsWellTyped}
use Rattle.method.specs.declared.program.Program.{Program}
use Rattle.method.specs.Typing.{WellTyped}
use Rattle.method.specs.Scopes.{Scoped}
use Rattle.typed_program.specs.Tables as tables
use Rattle.typed_program.specs.Views as seen
use Rattle.tree_forms.specs.InForm.{in_form}
use Rattle.typed_laws.specs.Fits.{AnnotationsFit}

-- The typed program of a source that breaks no typing rule is well formed: numbers name things of the tables, what is stored, passed or returned has the type of its place, invariants and claims read what they may.
abbrev pub WellFormedLaw : Type 0
WellFormedLaw = (items : List Item) (end : Span) → IsTrue (in_form items) → IsWellTyped items end → (p : Program) → seen.program p ≡ tables.program items → WellTyped p

-- Such a program keeps its scopes: nothing reads or sets a variable outside the block of its declaration, and contracts name parameters alone.
abbrev pub ScopedLaw : Type 0
ScopedLaw = (items : List Item) (end : Span) → IsTrue (in_form items) → IsWellTyped items end → (p : Program) → seen.program p ≡ tables.program items → Scoped p

-- The annotations of such a program fit its tables.
abbrev pub AnnotationsLaw : Type 0
AnnotationsLaw = (items : List Item) (end : Span) → IsTrue (in_form items) → IsWellTyped items end → AnnotationsFit (tables.program items)
