-- Trees of expressions and assignments, without where they lie in memory: what a source says, in the order of its text.
use Rattle.std.specs.Prelude.{ℕ, Bool, List, Option}
use Rattle.int_ranges.specs.declared.ctype.CType.{CType}
use Rattle.c_syntax.specs.declared.token.Span.{Span}
use Rattle.c_syntax.specs.declared.tree.Constant.{Constant}
use Rattle.c_syntax.specs.declared.tree.Status.{Status}
use Rattle.c_syntax.specs.declared.tree.UnaryOperator.{UnaryOperator}
use Rattle.c_syntax.specs.declared.tree.BinaryOperator.{BinaryOperator}
use Rattle.c_syntax.specs.declared.tree.SpecFunction.{SpecFunction}
use Rattle.c_syntax.specs.declared.tree.ListWord.{ListWord}
use Rattle.c_syntax.specs.declared.tree.Quantifier.{Quantifier}
use Rattle.c_syntax.specs.declared.tree.Interlocked.{Interlocked}

-- a name where it stands
pub record Id : Type 0 where
  pub place : Span
  pub name : List ℕ

-- the type of a value, as it is written
pub data Ty : Type 0 where
  Integer : CType → Ty
  Pointer : Id → Ty
  Object : Ty
  Claim : Ty

-- An expression of code or of a spec, with the place of the token that it is found by.
mutual
  pub data Exp : Type 0 where
    Number : Span → ℕ → CType → Exp
    Name : Id → Exp
    Null : Span → Exp
    Word : Span → Constant → Exp
    Group : Span → Exp → Exp
    Field : Span → Exp → Id → Exp
    State : Span → Exp → Span → Status → Exp
    Owns : Span → Exp → Span → Exp
    Unary : Span → UnaryOperator → Exp → Exp
    Binary : Span → BinaryOperator → Exp → Exp → Exp
    Conditional : Span → Exp → Exp → Exp → Exp
    Apply : Span → SpecFunction → Exp → Exp
    Several : Span → ListWord → Exps → Exp
    ClaimsObject : Span → Exp → Exp → Exp
    Claims : Span → Exp → Exp → Exp
    Approves : Span → Id → Exp
    Quantified : Span → Quantifier → Ty → Id → Exp → Exp

  -- expressions with commas between
  pub data Exps : Type 0 where
    Stop : Exps
    With : Exp → Exps → Exps

-- an Interlocked call, and what its value is compared with
pub record Inter : Type 0 where
  pub place : Span
  pub function : Interlocked
  pub field : Exp
  pub arguments : List Exp

pub record Comparison : Type 0 where
  pub place : Span
  pub is_equal : Bool
  pub other : Exp

pub record CallTree : Type 0 where
  pub function : Id
  pub arguments : List Exp
  pub ghost_arguments : List Exp

-- what stands right of a `=`
pub data Rhs : Type 0 where
  Value : Exp → Rhs
  Malloc : Option Id → Span → Id → Rhs
  Locked : Inter → Option Comparison → Rhs
  Called : CallTree → Rhs

-- how an assignment changes its left side
pub data Effect : Type 0 where
  Set : Rhs → Effect
  Add : Exp → Effect
  Subtract : Exp → Effect
  Increment : Effect
  Decrement : Effect

-- an assignment: its left side, the place of its sign, and what it does
pub record Assignment : Type 0 where
  pub left : Exp
  pub place : Span
  pub effect : Effect
