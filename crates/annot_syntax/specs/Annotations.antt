-- What stands as an annotation at the front of tokens, for the place where it stands, and why none does.
use Rattle.std.specs.Prelude.{◌≡◌, ℕ, ◌≤◌, List, drop, Result, Ok, Err}
use Rattle.c_syntax.specs.declared.token.Span.{Span}
use Rattle.ebnf.specs.Derives.{Phrases, Derives, DerivesRule, IsPhrase}
use Rattle.ebnf.specs.Reading.{Fault}
use Rattle.c_syntax.specs.Faults.{SyntaxFault, UnexpectedToken, UnknownForm, TooHigh, fault_of}
use Rattle.c_syntax.specs.Language.{language}
use Rattle.c_syntax.specs.Lexing.{Lexeme}
use Rattle.c_source.specs.declared.fault.SourceFault.{SourceFault}
use Rattle.c_source.specs.declared.fault.SourceFault.TheVariants as f
use Rattle.reader_pieces.specs.declared.tree.Place.{Place}
use Rattle.reader_pieces.specs.declared.tree.Annotation.{Annotation}
use Rattle.reader_pieces.specs.Annotations.{Annot, Shape, flat, level, annotation, view}
use Rattle.annot_syntax.specs.Standing.{Stands, IsStop}

-- what a shape derives
abbrev pub phrases : Shape → Phrases language Annot
phrases (flat p) = Derives language (IsPhrase language) p
phrases (level r) = DerivesRule language (IsPhrase language) r

-- an annotation of this place, no higher than room, up to the rest
abbrev pub IsAnnotation : Place → ℕ → List Lexeme → Annot → List Lexeme → Type 0
IsAnnotation place = Stands (phrases (annotation place))

-- The tokens' first fault as an annotation of this place, and where it stands; which fault it is goes as for whole sources.
pub record IsAnnotationFault (place : Place) (room : ℕ) (ts : List Lexeme) (fault : SyntaxFault) (at : Span) : Type 0 where
  pub kind : Fault
  pub front : List Lexeme
  pub token : Lexeme
  pub stop : IsStop (phrases (annotation place)) room ts kind front token
  pub is : fault ≡ fault_of kind front token
  pub here : at ≡ token.place

-- the fault, where it is no want of memory, is that of the tokens
abbrev pub IsAnnotationFaultOrMemory : Place → ℕ → List Lexeme → SourceFault → Type 0
IsAnnotationFaultOrMemory place room ts (f.Unexpected at') = IsAnnotationFault place room ts UnexpectedToken at'
IsAnnotationFaultOrMemory place room ts (f.UnknownForm at') = IsAnnotationFault place room ts UnknownForm at'
IsAnnotationFaultOrMemory place room ts (f.TooDeep at') = IsAnnotationFault place room ts TooHigh at'
IsAnnotationFaultOrMemory place room ts f.OutOfMemory = Unit {0}
IsAnnotationFaultOrMemory place room ts fault = ⊥

-- this annotation and the place behind it, unless memory runs out; and no fault
abbrev pub IsAnnotationOrMemory : List Lexeme → Annot → List Lexeme → Result (Annotation × ℕ) SourceFault → Type 0
IsAnnotationOrMemory all a rest (Ok x) = (a ≡ view x.0) × (rest ≡ drop x.1 all)
IsAnnotationOrMemory all a rest (Err f.OutOfMemory) = Unit {0}
IsAnnotationOrMemory all a rest (Err fault) = ⊥

-- where an annotation of this place stands that is low enough, the answer is that one, unless memory runs out
abbrev pub IsOnlyAnnotation : Place → ℕ → List Lexeme → List Lexeme → Result (Annotation × ℕ) SourceFault → Type 0
IsOnlyAnnotation place room all ts result = (a : Annot) (h : ℕ) (rest : List Lexeme) → phrases (annotation place) ts a h rest → h ≤ room → IsAnnotationOrMemory all a rest result
