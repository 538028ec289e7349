-- The typing rules, with their numbers. Own.
use Rattle.std.specs.Prelude.{ℕ, List, [], ◌∷◌}

pub data Rule : Type 0 where
  -- a name isn't declared
  Undeclared : Rule
  -- a name is declared twice
  DeclaredTwice : Rule
  -- an operator's operands don't fit
  Operands : Rule
  -- a value doesn't convert
  Conversion : Rule
  -- a call has too many or too few arguments
  ArgumentCount : Rule
  -- `->` stands behind something else than a `struct T *`
  Arrow : Rule
  -- what runs reads or writes what is ghost
  GhostInCode : Rule
  -- ghost code writes what isn't ghost
  GhostWrites : Rule
  -- such a statement can't stand in an atomic block
  InAtomic : Rule
  -- an atomic block has a second access to a volatile field
  SecondAccess : Rule
  -- an Interlocked call is out of form or place
  InterlockedCall : Rule
  -- an owned set can't be changed so
  OwnsChange : Rule
  -- something else than a `struct T *` is wrapped or unwrapped
  WrapOperand : Rule
  -- such an object can't be claimed
  Claimed : Rule
  -- an invariant reads what it can't speak of
  InvariantReads : Rule
  -- a quantifier, or an owned set in an invariant, isn't of the form
  QuantifierForm : Rule
  -- `\old`, `\unchanged` or `\fresh` is out of place
  OldPlace : Rule
  -- `\result` is out of place
  ResultPlace : Rule
  -- `\this` or `\mine` is out of place
  ThisPlace : Rule
  -- a claim's property holds what it can't
  PropertyForm : Rule
  -- a return is missing, out of place or out of form
  ReturnForm : Rule
  -- a function with a value is spawned
  SpawnedValue : Rule
  -- a struct has no field, or both kinds of owned sets
  StructForm : Rule
  -- there is no `main`
  NoMain : Rule
  -- `\approves` is out of place or of form
  ApprovalForm : Rule

abbrev pub number : Rule → ℕ
number Undeclared = 1
number DeclaredTwice = 2
number Operands = 3
number Conversion = 4
number ArgumentCount = 5
number Arrow = 6
number GhostInCode = 7
number GhostWrites = 8
number InAtomic = 9
number SecondAccess = 10
number InterlockedCall = 11
number OwnsChange = 12
number WrapOperand = 13
number Claimed = 14
number InvariantReads = 15
number QuantifierForm = 16
number OldPlace = 17
number ResultPlace = 18
number ThisPlace = 19
number PropertyForm = 20
number ReturnForm = 21
number SpawnedValue = 22
number StructForm = 23
number NoMain = 24
number ApprovalForm = 25

abbrev pub all_rules : List Rule
all_rules =
    Undeclared ∷ DeclaredTwice ∷ Operands ∷ Conversion ∷ ArgumentCount ∷ Arrow ∷ GhostInCode ∷ GhostWrites ∷ InAtomic ∷ SecondAccess ∷ InterlockedCall ∷ OwnsChange ∷ WrapOperand ∷ Claimed ∷ InvariantReads ∷ QuantifierForm ∷ OldPlace ∷ ResultPlace ∷ ThisPlace ∷ PropertyForm ∷ ReturnForm ∷ SpawnedValue ∷ StructForm ∷ NoMain ∷ ApprovalForm ∷ []
