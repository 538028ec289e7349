-- What holds of sources as they are read: bytes have one tree, or one first fault, and not both.
use Rattle.std.specs.Prelude.{◌≡◌, ℕ, List}
use Rattle.c_syntax.specs.declared.token.Span.{Span}
use Rattle.c_syntax.specs.Items.{Item}
use Rattle.c_source.specs.declared.fault.SourceFault.{SourceFault}
use Rattle.c_source.specs.Sources.{IsText, IsWithinLimits, IsFault}

abbrev pub OneText : Type 0
OneText = (bytes : List ℕ) (a b : List Item) (p q : Span) → IsText bytes a p → IsText bytes b q → (a ≡ b) × (p ≡ q)

abbrev pub OneFault : Type 0
OneFault = (bytes : List ℕ) (e f : SourceFault) → IsFault bytes e → IsFault bytes f → e ≡ f

abbrev pub NotBoth : Type 0
NotBoth = (bytes : List ℕ) (items : List Item) (end : Span) (text : IsText bytes items end) (fault : SourceFault) → IsWithinLimits text → IsFault bytes fault → ⊥
