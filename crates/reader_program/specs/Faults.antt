-- Which fault of a source stands where no item goes on.
use Rattle.std.specs.Prelude.{◌≡◌, List}
use Rattle.c_syntax.specs.declared.token.Span.{Span}
use Rattle.ebnf.specs.Reading.{Unexpected}
use Rattle.c_syntax.specs.Lexing.{Lexeme}
use Rattle.c_syntax.specs.Faults.{SyntaxFault, UnexpectedToken, UnknownForm, TooHigh, fault_of, front_of, first_token}
use Rattle.c_source.specs.declared.fault.SourceFault.{SourceFault}
use Rattle.c_source.specs.declared.fault.SourceFault.TheVariants as f

-- the fault of a syntax, at its place
abbrev pub IsSyntax : SyntaxFault × Span → SourceFault → Type 0
IsSyntax (UnexpectedToken, place) fault = fault ≡ f.Unexpected place
IsSyntax (UnknownForm, place) fault = fault ≡ f.UnknownForm place
IsSyntax (TooHigh, place) fault = fault ≡ f.TooDeep place

-- the fault of these tokens at the first of the rest, with which no item goes on
abbrev pub IsUnexpected : List Lexeme → List Lexeme → SourceFault → Type 0
IsUnexpected ts rest fault = IsSyntax (fault_of Unexpected (front_of ts rest) (first_token rest), (first_token rest).place) fault
