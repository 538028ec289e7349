-- Trees of ghost statements.
use Rattle.std.specs.Prelude.{List, Option}
use Rattle.c_syntax.specs.declared.token.Span.{Span}
use Rattle.c_syntax.specs.Expressions.{Id, Ty, Exp}

-- what is added to an owned set, or taken from it
pub data Members : Type 0 where
  One : Exp → Members
  Several : List Exp → Members

pub data OwnsEffect : Type 0 where
  Become : List Exp → OwnsEffect
  Join : Members → OwnsEffect
  Leave : Members → OwnsEffect

-- what stands right of a `=` in a ghost statement
pub data GhostRhs : Type 0 where
  Value : Exp → GhostRhs
  MakeClaim : Span → List Exp → Exp → GhostRhs

mutual
  -- a ghost statement, with the place of its first token
  pub data GStm : Type 0 where
    Block : Span → GStms → GStm
    Declare : Span → Ty → Id → Option GhostRhs → GStm
    Assign : Span → Exp → Span → GhostRhs → GStm
    Owns : Span → Exp → Span → OwnsEffect → GStm
    DestroyClaim : Span → Exp → List Exp → GStm
    Wrap : Span → Exp → GStm
    Unwrap : Span → Exp → GStm
    If : Span → Exp → GStm → GStm
    IfElse : Span → Exp → GStm → GStm → GStm

  pub data GStms : Type 0 where
    Empty : GStms
    More : GStm → GStms → GStms
