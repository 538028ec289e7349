-- What the reader's answers are by the reading of the grammar.
use Rattle.std.specs.Prelude.{◌≡◌, ℕ, List, map, Result, Ok, Err, Vec}
use Rattle.std.specs.declared.alloc.Global.{Global}
use Rattle.c_syntax.specs.declared.token.Span.{Span}
use Rattle.c_syntax.specs.declared.items.Item.{Item as ItemOf}
use Rattle.ebnf.specs.Reading.{Out, Unexpected, TooDeep}
use Rattle.c_syntax.specs.Lexing.{Lexeme}
use Rattle.c_syntax.specs.Items.{Item}
use Rattle.c_syntax.specs.Language.{language}
use Rattle.c_syntax.specs.Faults.{SyntaxFault, UnexpectedToken, UnknownForm, TooHigh}
use Rattle.c_syntax.specs.Views.{item}
use Rattle.reader_expressions.specs.declared.reading.ReadFault.{ReadFault}
use Rattle.reader_expressions.specs.declared.reading.ReadFault.TheVariants as r
use Rattle.reader_expressions.specs.Reading.{lexemes}
use Rattle.c_source.specs.declared.fault.SourceFault.{SourceFault}
use Rattle.c_source.specs.declared.fault.SourceFault.TheVariants as f

-- these items are what the grammar reads of a whole text, of any height, or this is its fault; of want of memory it says nothing
abbrev pub GivesItems : Result (Vec ItemOf Global) ReadFault → Out language (List Item) → Type 0
GivesItems (Ok v) out = (h : ℕ) × (rest : List Lexeme) × (out ≡ Ok (map item v.items, h, rest))
GivesItems (Err (r.Unexpected rest)) out = out ≡ Err (Unexpected, lexemes rest.now)
GivesItems (Err (r.TooDeep rest)) out = out ≡ Err (TooDeep, lexemes rest.now)
GivesItems (Err r.OutOfMemory) out = Unit {0}

-- the same of a source
abbrev pub IsRead : Result (Vec ItemOf Global) SourceFault → Result (List Item × ℕ) (SyntaxFault × Span) → Type 0
IsRead (Ok v) out = (h : ℕ) × (out ≡ Ok (map item v.items, h))
IsRead (Err (f.Unexpected place)) out = out ≡ Err (UnexpectedToken, place)
IsRead (Err (f.UnknownForm place)) out = out ≡ Err (UnknownForm, place)
IsRead (Err (f.TooDeep place)) out = out ≡ Err (TooHigh, place)
IsRead (Err f.OutOfMemory) out = Unit {0}
IsRead (Err _) out = ⊥
