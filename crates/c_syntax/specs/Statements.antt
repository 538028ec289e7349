-- Trees of statements.
use Rattle.std.specs.Prelude.{List, Option}
use Rattle.c_syntax.specs.declared.token.Span.{Span}
use Rattle.c_syntax.specs.Expressions.{Id, Ty, Exp, Rhs, Assignment, CallTree}
use Rattle.c_syntax.specs.Ghosts.{GStm}

-- an invariant, with the place of its `_(`
pub record Inv : Type 0 where
  pub place : Span
  pub property : Exp

mutual
  -- a statement, with the place of its first token
  pub data Stm : Type 0 where
    Block : Span → Stms → Span → Stm
    Skip : Span → Stm
    Declare : Span → Ty → Id → Option Rhs → Stm
    Assign : Span → Assignment → Stm
    Call : Span → CallTree → Stm
    If : Span → Exp → Stm → Stm
    IfElse : Span → Exp → Stm → Stm → Stm
    While : Span → Exp → List Inv → Stm → Stm
    Do : Span → List Inv → Stm → Span → Exp → Stm
    For : Span → Option Assignment → Exp → Option Assignment → List Inv → Stm → Stm
    Return : Span → Option Exp → Stm
    Spawn : Span → CallTree → Stm
    Free : Span → Exp → Stm
    Assert : Span → Exp → Stm
    Ghost : Span → GStm → Stm
    Wrap : Span → Exp → Stm
    Unwrap : Span → Exp → Stm
    Unwrapping : Span → Exp → Stms → Span → Stm
    Atomic : Span → List Exp → Stms → Span → Stm

  pub data Stms : Type 0 where
    Empty : Stms
    More : Stm → Stms → Stms

-- statements in braces, with the places of the braces
pub record Braces : Type 0 where
  pub start : Span
  pub all : Stms
  pub end : Span
