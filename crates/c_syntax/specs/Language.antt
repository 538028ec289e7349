-- The grammar as a whole, and what follows from each rule: how high its trees are at least, which tokens begin them, and which may go on with them.
use Rattle.std.specs.Prelude.{ℕ, List, [], ◌∷◌, ◌++◌}
use Rattle.ebnf.specs.Rules.{Grammar}
use Rattle.c_syntax.specs.declared.token.Keyword.TheVariants as k
use Rattle.c_syntax.specs.declared.token.SpecWord.TheVariants as w
use Rattle.c_syntax.specs.declared.token.Sign.TheVariants as s
use Rattle.c_syntax.specs.Lexing.{Lexeme}
use Rattle.c_syntax.specs.Classes.{key, spec, sign, class, of_class}
use Rattle.c_syntax.specs.Grammar.{Mode, Code, InSpec, N, Level, Primary, Unnamed, Start, NamePlace, OtherPlace, AnyPlace, GhostName, GhostOther, SetStart, OwnedSet, SetQuantifier, SetBody, Membership, Element, InterlockedCall, Allocation, GhostArgument, Assigned, MakeClaim, GhostBody, GhostStatement, BlockOf, Statement, LoopItem, WritesOf, ClauseOf, MemberOf, ItemOf, Program, V, rule}

-- the least heights
abbrev pub least : N → ℕ
least (Level m l) = 1
least (Primary m) = 1
least Unnamed = 1
least Start = 1
least NamePlace = 1
least OtherPlace = 2
least AnyPlace = 2
least GhostName = 1
least GhostOther = 2
least SetStart = 1
least OwnedSet = 2
least SetQuantifier = 4
least SetBody = 3
least Membership = 3
least Element = 1
least InterlockedCall = 3
least Allocation = 2
least GhostArgument = 2
least Assigned = 2
least MakeClaim = 2
least GhostBody = 1
least GhostStatement = 2
least BlockOf = 1
least Statement = 1
least LoopItem = 1
least WritesOf = 2
least ClauseOf = 2
least MemberOf = 1
least ItemOf = 2
least Program = 3

-- ---- the tokens that begin a tree; 1 is a name, 2 a number

abbrev unnamed_begins : List ℕ
unnamed_begins = 2 ∷ key k.Null ∷ sign s.Open ∷ []

abbrev set_begins : List ℕ
set_begins =
    1 ∷ 2 ∷ key k.Null ∷ sign s.Open ∷ spec w.True ∷ spec w.False ∷ spec w.This ∷ spec w.Me ∷ spec w.Result ∷ spec w.Old ∷ spec w.Unchanged ∷ spec w.Wrapped ∷ spec w.WrappedUnclaimed ∷ spec w.Mutable ∷ spec w.Fresh ∷ spec w.Mine ∷ spec w.ClaimsOnly ∷ spec w.ClaimsObject ∷ spec w.Claims ∷ spec w.Approves ∷ []

abbrev quantifier_begins : List ℕ
quantifier_begins = spec w.Forall ∷ spec w.Exists ∷ []

abbrev primary_begins : Mode → List ℕ
primary_begins Code = 1 ∷ unnamed_begins
primary_begins InSpec = set_begins ++ quantifier_begins

abbrev level_begins : Mode → List ℕ
level_begins m = sign s.Not ∷ sign s.Minus ∷ primary_begins m

abbrev type_begins : List ℕ
type_begins = key k.Int ∷ key k.Long ∷ key k.Unsigned ∷ key k.Struct ∷ []

abbrev ghost_begins : List ℕ
ghost_begins =
    key k.Int ∷ key k.Long ∷ key k.Unsigned ∷ key k.Struct ∷ spec w.Object ∷ spec w.Claim ∷ 1 ∷ 2 ∷ key k.Null ∷ sign s.Open ∷ spec w.DestroyClaim ∷ sign s.Annotation ∷ key k.If ∷ []

abbrev statement_begins : List ℕ
statement_begins =
    sign s.BraceOpen ∷ sign s.Semicolon ∷ key k.Int ∷ key k.Long ∷ key k.Unsigned ∷ key k.Struct ∷ 1 ∷ 2 ∷ key k.Null ∷ sign s.Open ∷ key k.If ∷ key k.While ∷ key k.Do ∷ key k.For ∷ key k.Return ∷ key k.VccSpawn ∷ key k.Free ∷ sign s.Annotation ∷ []

abbrev item_begins : List ℕ
item_begins = sign s.Annotation ∷ key k.Struct ∷ key k.Void ∷ key k.Int ∷ key k.Long ∷ key k.Unsigned ∷ []

abbrev pub begins : N → List ℕ
begins (Level m l) = level_begins m
begins (Primary m) = primary_begins m
begins Unnamed = unnamed_begins
begins Start = level_begins Code
begins NamePlace = 1 ∷ []
begins OtherPlace = unnamed_begins
begins AnyPlace = primary_begins Code
begins GhostName = 1 ∷ []
begins GhostOther = unnamed_begins
begins SetStart = primary_begins InSpec
begins OwnedSet = primary_begins InSpec
begins SetQuantifier = quantifier_begins
begins SetBody = primary_begins InSpec
begins Membership = primary_begins InSpec
begins Element = primary_begins InSpec
begins InterlockedCall = key k.CompareExchange ∷ key k.Exchange ∷ key k.Increment ∷ key k.Decrement ∷ []
begins Allocation = key k.Malloc ∷ []
begins GhostArgument = sign s.Annotation ∷ []
begins Assigned = primary_begins Code
begins MakeClaim = spec w.MakeClaim ∷ []
begins GhostBody = sign s.BraceOpen ∷ ghost_begins
begins GhostStatement = ghost_begins
begins BlockOf = sign s.BraceOpen ∷ []
begins Statement = statement_begins
begins LoopItem = statement_begins
begins WritesOf = spec w.Span ∷ spec w.Extent ∷ []
begins ClauseOf = sign s.Annotation ∷ []
begins MemberOf = key k.Volatile ∷ key k.Int ∷ key k.Long ∷ key k.Unsigned ∷ key k.Struct ∷ sign s.Annotation ∷ []
begins ItemOf = item_begins
begins Program = item_begins

-- ---- the tokens that may go on with a tree that could end

abbrev code_operators : List ℕ
code_operators =
    sign s.Arrow ∷ sign s.Star ∷ sign s.Slash ∷ sign s.Percent ∷ sign s.Plus ∷ sign s.Minus ∷ sign s.Less ∷ sign s.LessEqual ∷ sign s.Greater ∷ sign s.GreaterEqual ∷ sign s.Equal ∷ sign s.NotEqual ∷ sign s.And ∷ sign s.Or ∷ sign s.Question ∷ []

abbrev operators : Mode → List ℕ
operators Code = code_operators
operators InSpec = spec w.In ∷ sign s.Implies ∷ sign s.Equivalent ∷ code_operators

abbrev primary_goes : Mode → List ℕ
primary_goes Code = []
primary_goes InSpec = operators InSpec

-- those of a body right of `\in`
abbrev set_operators : List ℕ
set_operators = spec w.In ∷ sign s.And ∷ sign s.Implies ∷ []

abbrev pub goes : N → List ℕ
goes (Level m l) = operators m
goes (Primary m) = primary_goes m
goes Unnamed = []
goes Start = code_operators
goes NamePlace = sign s.Arrow ∷ []
goes OtherPlace = sign s.Arrow ∷ []
goes AnyPlace = sign s.Arrow ∷ []
goes GhostName = sign s.Arrow ∷ []
goes GhostOther = sign s.Arrow ∷ []
goes SetStart = set_operators
goes OwnedSet = []
goes SetQuantifier = set_operators
goes SetBody = set_operators
goes Membership = spec w.In ∷ []
goes Element = sign s.Arrow ∷ []
goes InterlockedCall = code_operators
goes Allocation = []
goes GhostArgument = []
goes Assigned = sign s.Open ∷ code_operators
goes MakeClaim = []
goes GhostBody = sign s.Semicolon ∷ key k.Else ∷ sign s.Assign ∷ code_operators
goes GhostStatement = sign s.Semicolon ∷ key k.Else ∷ sign s.Assign ∷ code_operators
goes BlockOf = []
goes Statement = key k.Else ∷ []
goes LoopItem = key k.Else ∷ []
goes WritesOf = []
goes ClauseOf = []
goes MemberOf = []
goes ItemOf = []
goes Program = item_begins

-- above those of the nonterminals that may stand first
abbrev pub rank : N → ℕ
rank (Level m l) = 0
rank (Primary m) = 0
rank Unnamed = 0
rank Start = 0
rank NamePlace = 0
rank OtherPlace = 1
rank AnyPlace = 1
rank GhostName = 0
rank GhostOther = 1
rank SetStart = 0
rank OwnedSet = 1
rank SetQuantifier = 0
rank SetBody = 2
rank Membership = 2
rank Element = 1
rank InterlockedCall = 0
rank Allocation = 0
rank GhostArgument = 0
rank Assigned = 2
rank MakeClaim = 0
rank GhostBody = 2
rank GhostStatement = 2
rank BlockOf = 0
rank Statement = 2
rank LoopItem = 2
rank WritesOf = 0
rank ClauseOf = 0
rank MemberOf = 0
rank ItemOf = 0
rank Program = 1

-- The language: C with the annotations of VCC.
abbrev pub language : Grammar
language = record { N = N; V = V; T = Lexeme; class = class; of_class = of_class; rule = rule; least = least; begins = begins; goes = goes; rank = rank }
