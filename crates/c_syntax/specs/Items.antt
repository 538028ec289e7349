-- Trees of contracts, functions and structs.
use Rattle.std.specs.Prelude.{Bool, List, Option}
use Rattle.c_syntax.specs.declared.token.Span.{Span}
use Rattle.c_syntax.specs.declared.tree.Condition.{Condition}
use Rattle.c_syntax.specs.declared.tree.Attribute.{Attribute}
use Rattle.c_syntax.specs.Expressions.{Id, Ty, Exp}
use Rattle.c_syntax.specs.Statements.{Inv, Braces}

-- an item of a writes list
pub data Written : Type 0 where
  Thing : Exp → Written
  SpanOf : Span → Exp → Written
  ExtentOf : Span → Exp → Written

-- a clause of a contract, with the place of its `_(`
pub data Clause : Type 0 where
  Holds : Span → Condition → Exp → Clause
  Writes : Span → List Written → Clause

pub record Param : Type 0 where
  pub ty : Ty
  pub name : Id

pub record FunctionTree : Type 0 where
  pub place : Span
  pub value : Option Ty
  pub name : Id
  pub parameters : List Param
  pub ghost_parameters : List Param
  pub contract : List Clause
  pub body : Braces

pub record FieldTree : Type 0 where
  pub is_ghost : Bool
  pub is_volatile : Bool
  pub ty : Ty
  pub name : Id

-- a member of a struct
pub data Member : Type 0 where
  Field : FieldTree → Member
  Invariant : Inv → Member

pub record StructTree : Type 0 where
  pub attributes : List Attribute
  pub place : Span
  pub name : Id
  pub members : List Member

-- a struct or a function
pub data Item : Type 0 where
  Struct : StructTree → Item
  Function : FunctionTree → Item
