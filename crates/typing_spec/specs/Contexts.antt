-- What stands around a piece of a program. From ISO/IEC 9899 6.2.1 for scopes, and from the VCC manual for the kinds of text.
use Rattle.std.specs.Prelude.{Bool, true, List, ◌∷◌, Option, None}
use Rattle.c_syntax.specs.Expressions.{Id, Ty, Exp}
use Rattle.c_syntax.specs.Items.{StructTree, Item}

-- what a text is: what runs, ghost code, or which kind of spec
pub data Text : Type 0 where
  Code : Text
  -- also what is wrapped, unwrapped or listed at an atomic block, and ghost arguments
  GhostCode : Text
  TypeInvariant : Text
  LoopInvariant : Text
  Requires : Text
  Ensures : Text
  Maintains : Text
  Writes : Text
  Assert : Text
  ClaimProperty : Text

-- where an expression stands in a property: a claim's or the second argument of `\claims`
pub data InProperty : Type 0 where
  Outside : InProperty
  -- a whole conjunct, with the claimed objects of a claim's property
  Conjunct : Option (List Exp) → InProperty
  -- part of a conjunct
  Below : InProperty

pub record Variable : Type 0 where
  pub name : Id
  pub ty : Ty
  pub is_ghost : Bool

-- what names and words stand for
pub record Scope : Type 0 where
  -- the whole program
  pub items : List Item
  -- the variables that are known, the innermost first
  pub variables : List Variable
  -- the struct whose invariant this is
  pub this : Option StructTree
  -- the type of `\result`, in an ensures clause
  pub result : Option Ty

pub record Context : Type 0 where
  pub scope : Scope
  -- the type of the function's value
  pub value : Option Ty
  pub text : Text
  pub property : InProperty
  pub in_old : Bool
  pub in_atomic : Bool
  pub in_unwrapping : Bool

-- ---- contexts of parts

abbrev pub known : Variable → Scope → Scope
known v here = record here { variables = v ∷ here.variables }

-- the body of a quantifier over x
abbrev pub quantified : Ty → Id → Scope → Scope
quantified ty x = known (record { name = x; ty = ty; is_ghost = true })

abbrev pub with_text : Text → Context → Context
with_text t c = record c { text = t }

abbrev pub with_variable : Variable → Context → Context
with_variable v c = record c { scope = known v c.scope }

abbrev pub with_quantified : Ty → Id → Context → Context
with_quantified ty x c = record c { scope = quantified ty x c.scope }

abbrev pub ghost : Context → Context
ghost = with_text GhostCode

abbrev pub part_of : InProperty → InProperty
part_of Outside = Outside
part_of (Conjunct objects) = Below
part_of Below = Below

-- inside an expression that isn't a conjunction
abbrev pub deeper : Context → Context
deeper c = record c { property = part_of c.property }

-- the second argument of `\claims`
abbrev pub inside_claims : Context → Context
inside_claims c = record c { property = Conjunct None }

abbrev pub inside_atomic : Context → Context
inside_atomic c = record c { in_atomic = true }

abbrev pub inside_unwrapping : Context → Context
inside_unwrapping c = record c { in_unwrapping = true }
