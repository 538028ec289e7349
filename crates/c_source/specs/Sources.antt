-- What bytes are read as: the items of a source, or its first fault.
use Rattle.std.specs.Prelude.{◌≡◌, ℕ, suc, ◌≤◌, List, length, Result, Ok, Err}
use Rattle.c_syntax.specs.declared.token.Span.{Span}
use Rattle.c_syntax.specs.declared.fault.LexFault.TheVariants as lexical
use Rattle.c_syntax.specs.Lexing.{Lexeme, Lexes, IsFirstFault, most_tokens}
use Rattle.c_syntax.specs.declared.items.Tree.{Tree}
use Rattle.c_syntax.specs.Items.{Item}
use Rattle.c_syntax.specs.Views.{items_of}
use Rattle.c_syntax.specs.Faults.{SyntaxFault, UnexpectedToken, UnknownForm, TooHigh, IsSource, IsSyntaxFault}
use Rattle.c_syntax.specs.Laws.{room}
use Rattle.c_source.specs.declared.fault.SourceFault.{SourceFault}
use Rattle.c_source.specs.declared.fault.SourceFault.TheVariants as f

-- The bytes are tokens, and the tokens are these items; the text ends at this place.
pub record IsText (bytes : List ℕ) (items : List Item) (end : Span) : Type 0 where
  pub tokens : List Lexeme
  pub height : ℕ
  pub lexes : Lexes bytes tokens
  pub is : IsSource tokens items height
  pub ends : end ≡ lexes.end.place

-- It has no more tokens than there may be (its end is not counted), and no item is higher than it may be (the program around the items is one level more).
pub record IsWithinLimits {bytes : List ℕ} {items : List Item} {end : Span} (text : IsText bytes items end) : Type 0 where
  pub few : length text.tokens ≤ suc most_tokens
  pub low : text.height ≤ room

-- The bytes are tokens, no more than there may be, and this is the first fault of their syntax.
pub record HasSyntaxFault (bytes : List ℕ) (fault : SyntaxFault) (place : Span) : Type 0 where
  pub tokens : List Lexeme
  pub lexes : Lexes bytes tokens
  pub few : length tokens ≤ suc most_tokens
  pub is : IsSyntaxFault tokens fault place

-- this is the bytes' first fault: that of their tokens, or else that of their syntax
abbrev pub IsFault : List ℕ → SourceFault → Type 0
IsFault bytes (f.BadByte place) = IsFirstFault bytes (lexical.BadByte place)
IsFault bytes (f.BadNumber place) = IsFirstFault bytes (lexical.BadNumber place)
IsFault bytes (f.OpenComment place) = IsFirstFault bytes (lexical.OpenComment place)
IsFault bytes (f.TooManyTokens place) = IsFirstFault bytes (lexical.TooManyTokens place)
IsFault bytes (f.Unexpected place) = HasSyntaxFault bytes UnexpectedToken place
IsFault bytes (f.UnknownForm place) = HasSyntaxFault bytes UnknownForm place
IsFault bytes (f.TooDeep place) = HasSyntaxFault bytes TooHigh place
IsFault bytes f.OutOfMemory = ⊥

-- These items with this end, unless memory runs out; and no fault.
abbrev pub IsTreeOrMemory : List Item → Span → Result Tree SourceFault → Type 0
IsTreeOrMemory items end (Ok t) = (items ≡ items_of t) × (end ≡ t.end)
IsTreeOrMemory items end (Err f.OutOfMemory) = Unit {0}
IsTreeOrMemory items end (Err fault) = ⊥

-- This fault, unless memory runs out.
abbrev pub FailsOrMemory : {X : Type 0} → SourceFault → Result X SourceFault → Type 0
FailsOrMemory fault (Ok x) = ⊥
FailsOrMemory fault (Err f.OutOfMemory) = Unit {0}
FailsOrMemory fault (Err other) = other ≡ fault

-- the fault, where it is no want of memory, is the bytes' first
abbrev pub IsFaultOrMemory : List ℕ → SourceFault → Type 0
IsFaultOrMemory bytes f.OutOfMemory = Unit {0}
IsFaultOrMemory bytes fault = IsFault bytes fault
