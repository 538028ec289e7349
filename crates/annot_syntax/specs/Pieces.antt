-- What stands as an expression at the front of tokens, and why none does.
use Rattle.std.specs.Prelude.{◌≡◌, ℕ, ◌-◌, ◌≤◌, List, drop, Result, Ok, Err}
use Rattle.c_syntax.specs.declared.token.Span.{Span}
use Rattle.c_syntax.specs.declared.expressions.Expr.{Expr}
use Rattle.ebnf.specs.Derives.{IsPhrase}
use Rattle.ebnf.specs.Reading.{Fault, Unexpected, TooDeep}
use Rattle.c_syntax.specs.Lexing.{Lexeme}
use Rattle.c_syntax.specs.Expressions.{Exp}
use Rattle.c_syntax.specs.Grammar.{N, Level, Code, Choice}
use Rattle.c_syntax.specs.Language.{language}
use Rattle.c_syntax.specs.Views.{exp}
use Rattle.c_source.specs.declared.fault.SourceFault.{SourceFault}
use Rattle.c_source.specs.declared.fault.SourceFault.TheVariants as f
use Rattle.annot_syntax.specs.Standing.{Stands, IsStop}

-- an expression of code
abbrev pub code_expression : N
code_expression = Level Code Choice

-- how high a piece may be that so many levels stand around
abbrev pub room_within : ℕ → ℕ
room_within above = 200 - above

-- the tokens before the rest are this expression, no higher than room, and no longer one begins so
abbrev pub IsExpression : ℕ → List Lexeme → Exp → List Lexeme → Type 0
IsExpression = Stands (IsPhrase language code_expression)

-- the tokens' first fault as an expression, and where it stands
pub record IsExpressionFault (room : ℕ) (ts : List Lexeme) (kind : Fault) (place : Span) : Type 0 where
  pub front : List Lexeme
  pub token : Lexeme
  pub stop : IsStop (IsPhrase language code_expression) room ts kind front token
  pub here : place ≡ token.place

-- the fault, where it is no want of memory, is that of the tokens
abbrev pub IsFaultOrMemory : ℕ → List Lexeme → SourceFault → Type 0
IsFaultOrMemory room ts (f.Unexpected place) = IsExpressionFault room ts Unexpected place
IsFaultOrMemory room ts (f.TooDeep place) = IsExpressionFault room ts TooDeep place
IsFaultOrMemory room ts f.OutOfMemory = Unit {0}
IsFaultOrMemory room ts fault = ⊥

-- this expression and the place behind it, unless memory runs out; and no fault
abbrev pub IsFoundOrMemory : List Lexeme → Exp → List Lexeme → Result (Expr × ℕ) SourceFault → Type 0
IsFoundOrMemory all e rest (Ok x) = (e ≡ exp x.0) × (rest ≡ drop x.1 all)
IsFoundOrMemory all e rest (Err f.OutOfMemory) = Unit {0}
IsFoundOrMemory all e rest (Err fault) = ⊥

-- where an expression stands that is low enough, the answer is that one, unless memory runs out
abbrev pub IsOnlyExpression : ℕ → List Lexeme → List Lexeme → Result (Expr × ℕ) SourceFault → Type 0
IsOnlyExpression room all ts result = (e : Exp) (h : ℕ) (rest : List Lexeme) → IsPhrase language code_expression ts e h rest → h ≤ room → IsFoundOrMemory all e rest result
