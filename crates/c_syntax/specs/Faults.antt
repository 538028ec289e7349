-- What a list of tokens is read as: a source's items, or its first syntax fault. Own: which words behind `_(` are forms, and that another word there is a fault of its own.
use Rattle.std.specs.Prelude.{◌≡◌, ℕ, ◌-◌, Bool, true, false, not, ◌&&◌, ◌==◌, if◌then◌else◌, List, [], ◌∷◌, length, take, Result, Ok, Err}
use Rattle.c_syntax.specs.declared.token.Span.{Span}
use Rattle.c_syntax.specs.declared.token.Keyword.{Keyword}
use Rattle.c_syntax.specs.declared.token.Keyword.TheVariants as k
use Rattle.c_syntax.specs.declared.token.Sign.TheVariants as s
use Rattle.ebnf.specs.Derives.{next}
use Rattle.ebnf.specs.Reading.{Fault, Unexpected, TooDeep, Out}
use Rattle.ebnf.specs.Verdict.{IsFirstFault}
use Rattle.c_syntax.specs.Tokens.{Word, Name, Key, End}
use Rattle.c_syntax.specs.Lexing.{Lexeme}
use Rattle.c_syntax.specs.Classes.{sign}
use Rattle.c_syntax.specs.Items.{Item}
use Rattle.c_syntax.specs.Grammar.{Program}
use Rattle.c_syntax.specs.Language.{language}
use Rattle.c_syntax.specs.Laws.{IsProgram, read_items, room}

-- keywords that are a form behind `_(` somewhere
abbrev pub is_form_word : Keyword → Bool
is_form_word k.Claimable = true
is_form_word k.DynamicOwns = true
is_form_word k.VolatileOwns = true
is_form_word k.Invariant = true
is_form_word k.Ghost = true
is_form_word k.Requires = true
is_form_word k.Ensures = true
is_form_word k.Maintains = true
is_form_word k.Writes = true
is_form_word k.Assert = true
is_form_word k.Wrap = true
is_form_word k.Unwrap = true
is_form_word k.Unwrapping = true
is_form_word k.Atomic = true
is_form_word _ = false

-- a name or a keyword, and no form anywhere
abbrev pub is_no_form : Word → Bool
is_no_form (Name x) = true
is_no_form (Key x) = not (is_form_word x)
is_no_form _ = false

pub data SyntaxFault : Type 0 where
  -- no item begins with its tokens up to this one
  UnexpectedToken : SyntaxFault
  -- the same of a word behind `_(` that is a form nowhere
  UnknownForm : SyntaxFault
  -- only items that are too high begin so
  TooHigh : SyntaxFault

-- the last of these tokens is `_(`
abbrev pub ends_with_annotation : List Lexeme → Bool
ends_with_annotation [] = false
ends_with_annotation (x ∷ []) = language.class x == sign s.Annotation
ends_with_annotation (x ∷ xs) = ends_with_annotation xs

-- the fault of a token behind these
abbrev pub fault_of : Fault → List Lexeme → Lexeme → SyntaxFault
fault_of TooDeep front x = TooHigh
fault_of Unexpected front x = if ends_with_annotation front && is_no_form x.word then UnknownForm else UnexpectedToken

-- the tokens, up to the end, are these items, so high; none where the end stands first
pub data IsSource (ts : List Lexeme) (items : List Item) (h : ℕ) : Type 0 where
  none : next language ts ≡ 0 → items ≡ [] → h ≡ 0 → IsSource ts items h
  some : IsProgram ts items h → IsSource ts items h

-- this is the tokens' first fault, and where it stands
pub record IsSyntaxFault (ts : List Lexeme) (fault : SyntaxFault) (place : Span) : Type 0 where
  pub kind : Fault
  pub rest : List Lexeme
  pub first : IsFirstFault language Program room ts kind rest
  pub some : (next language ts == 0) ≡ false
  pub is : fault ≡ fault_of kind first.front first.token
  pub here : place ≡ first.token.place

-- the place and word of the first of these tokens
abbrev pub first_token : List Lexeme → Lexeme
first_token [] = record { word = End; place = record { line = 1; column = 1 }; start = 0; end = 0 }
first_token (x ∷ xs) = x

-- the tokens before these last ones
abbrev pub front_of : List Lexeme → List Lexeme → List Lexeme
front_of ts rest = take (length ts - length rest) ts

abbrev pub named : List Lexeme → Out language (List Item) → Result (List Item × ℕ) (SyntaxFault × Span)
named ts (Ok p) = Ok (p.0, p.1)
named ts (Err e) = Err (fault_of e.0 (front_of ts e.1) (first_token e.1), (first_token e.1).place)

-- what tokens are read as
abbrev pub read_source : List Lexeme → Result (List Item × ℕ) (SyntaxFault × Span)
read_source ts = if next language ts == 0 then Ok ([], 0) else named ts (read_items ts)
