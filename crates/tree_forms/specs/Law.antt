-- What the grammar leaves true of a text's trees. Own.
use Rattle.std.specs.Prelude.{ℕ, List, IsTrue}
use Rattle.c_syntax.specs.declared.token.Span.{Span}
use Rattle.c_syntax.specs.Items.{Item}
use Rattle.c_source.specs.Sources.{IsText}
use Rattle.tree_forms.specs.InForm.{in_form}

-- the items of a text are in form
abbrev pub FormLaw : Type 0
FormLaw = (bytes : List ℕ) (items : List Item) (end : Span) → IsText bytes items end → IsTrue (in_form items)
