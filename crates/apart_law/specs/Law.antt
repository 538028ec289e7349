-- When ghost and concrete code of a source are apart. Own.
use Rattle.std.specs.Prelude.{◌≡◌, ℕ, List, IsTrue}
use Rattle.c_syntax.specs.declared.token.Span.{Span}
use Rattle.c_syntax.specs.Items.{Item}
use Rattle.c_source.specs.Sources.{IsText}
use Rattle.object_types.specs.Sets.{every}
use Rattle.typing_spec.specs.First.{IsWellTyped}
use Rattle.method.specs.declared.program.Program.{Program}
use Rattle.plain_machine.specs.GhostApart.{GhostApart}
use Rattle.typed_program.specs.Tables as tables
use Rattle.typed_program.specs.Views as seen
use Rattle.tree_forms.specs.InForm.{in_form}
use Rattle.apart_law.specs.Premises.{item_stores_once, item_of_c}

-- In the typed program of a source that breaks no typing rule ghost and concrete code are apart, where each atomic block
-- holds at most one assignment of code, and parameters, declarations of code and fields that aren't ghost have types of C.
abbrev pub StoringOnceIsApart : Type 0
StoringOnceIsApart =
    (items : List Item) (end : Span)
    → IsTrue (in_form items) → IsTrue (every item_stores_once items) → IsTrue (every item_of_c items)
    → IsWellTyped items end → (p : Program) → seen.program p ≡ tables.program items → GhostApart p

-- A text's parameters, declarations of code and fields that aren't ghost have types of C.
abbrev pub TextsAreOfC : Type 0
TextsAreOfC = (bytes : List ℕ) (items : List Item) (end : Span) → IsText bytes items end → IsTrue (every item_of_c items)

-- So of a text only the atomic blocks have to be looked at.
abbrev pub TextsStoringOnceAreApart : Type 0
TextsStoringOnceAreApart =
    (bytes : List ℕ) (items : List Item) (end : Span) → IsText bytes items end → IsTrue (every item_stores_once items)
    → IsWellTyped items end → (p : Program) → seen.program p ≡ tables.program items → GhostApart p
