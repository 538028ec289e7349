-- The classes of tokens: the end, names, numbers, and each word and sign by itself. Own.
use Rattle.std.specs.Prelude.{ℕ, List, [], ◌∷◌, slice_index_or}
use Rattle.int_ranges.specs.declared.ctype.CType.TheVariants.{Int}
use Rattle.c_syntax.specs.declared.token.Keyword.{Keyword}
use Rattle.c_syntax.specs.declared.token.Keyword.TheVariants as k
use Rattle.c_syntax.specs.declared.token.SpecWord.{SpecWord}
use Rattle.c_syntax.specs.declared.token.SpecWord.TheVariants as w
use Rattle.c_syntax.specs.declared.token.Sign.{Sign}
use Rattle.c_syntax.specs.declared.token.Sign.TheVariants as s
use Rattle.c_syntax.specs.Tokens.{Word, Name, Key, Spec, OtherSpec, Number, Mark, End}
use Rattle.c_syntax.specs.Lexing.{Lexeme}

-- one token of each class, in the order of their numbers
abbrev pub words : List Word
words =
    End ∷ Name [] ∷ Number 0 Int ∷ OtherSpec ∷ Key k.Claimable ∷ Key k.DynamicOwns ∷ Key k.VolatileOwns ∷ Key k.Struct ∷ Key k.Volatile ∷
    Key k.Invariant ∷ Key k.Ghost ∷ Key k.Int ∷ Key k.Unsigned ∷ Key k.Long ∷ Key k.Void ∷ Key k.Requires ∷ Key k.Ensures ∷ Key k.Maintains ∷
    Key k.Writes ∷ Key k.If ∷ Key k.Else ∷ Key k.While ∷ Key k.Do ∷ Key k.For ∷ Key k.Return ∷ Key k.VccSpawn ∷ Key k.Free ∷ Key k.Assert ∷
    Key k.Wrap ∷ Key k.Unwrap ∷ Key k.Unwrapping ∷ Key k.Atomic ∷ Key k.Malloc ∷ Key k.Sizeof ∷ Key k.CompareExchange ∷ Key k.Exchange ∷
    Key k.Increment ∷ Key k.Decrement ∷ Key k.Null ∷ Spec w.Object ∷ Spec w.Claim ∷ Spec w.Span ∷ Spec w.Extent ∷ Spec w.Owns ∷ Spec w.DestroyClaim ∷
    Spec w.MakeClaim ∷ Spec w.In ∷ Spec w.True ∷ Spec w.False ∷ Spec w.This ∷ Spec w.Me ∷ Spec w.Result ∷ Spec w.Old ∷ Spec w.Unchanged ∷
    Spec w.Mine ∷ Spec w.Wrapped ∷ Spec w.WrappedUnclaimed ∷ Spec w.Mutable ∷ Spec w.Fresh ∷ Spec w.ClaimsObject ∷ Spec w.Claims ∷ Spec w.ClaimsOnly ∷ Spec w.Approves ∷ Spec w.Closed ∷
    Spec w.Owner ∷ Spec w.ClaimCount ∷ Spec w.Forall ∷ Spec w.Exists ∷ Mark s.Open ∷ Mark s.Close ∷ Mark s.BraceOpen ∷ Mark s.BraceClose ∷
    Mark s.BracketOpen ∷ Mark s.BracketClose ∷ Mark s.Annotation ∷ Mark s.Semicolon ∷ Mark s.Comma ∷ Mark s.Arrow ∷ Mark s.Assign ∷
    Mark s.AddAssign ∷ Mark s.SubtractAssign ∷ Mark s.Increment ∷ Mark s.Decrement ∷ Mark s.Equal ∷ Mark s.NotEqual ∷ Mark s.Less ∷
    Mark s.LessEqual ∷ Mark s.Greater ∷ Mark s.GreaterEqual ∷ Mark s.Plus ∷ Mark s.Minus ∷ Mark s.Star ∷ Mark s.Slash ∷ Mark s.Percent ∷ Mark s.Not ∷
    Mark s.And ∷ Mark s.Or ∷ Mark s.Question ∷ Mark s.Colon ∷ Mark s.Ampersand ∷ Mark s.Implies ∷ Mark s.Equivalent ∷ Mark s.Dot ∷ Mark s.Bar ∷
    Mark s.Caret ∷ Mark s.Tilde ∷ []

abbrev pub key : Keyword → ℕ
key k.Claimable = 4
key k.DynamicOwns = 5
key k.VolatileOwns = 6
key k.Struct = 7
key k.Volatile = 8
key k.Invariant = 9
key k.Ghost = 10
key k.Int = 11
key k.Unsigned = 12
key k.Long = 13
key k.Void = 14
key k.Requires = 15
key k.Ensures = 16
key k.Maintains = 17
key k.Writes = 18
key k.If = 19
key k.Else = 20
key k.While = 21
key k.Do = 22
key k.For = 23
key k.Return = 24
key k.VccSpawn = 25
key k.Free = 26
key k.Assert = 27
key k.Wrap = 28
key k.Unwrap = 29
key k.Unwrapping = 30
key k.Atomic = 31
key k.Malloc = 32
key k.Sizeof = 33
key k.CompareExchange = 34
key k.Exchange = 35
key k.Increment = 36
key k.Decrement = 37
key k.Null = 38

abbrev pub spec : SpecWord → ℕ
spec w.Object = 39
spec w.Claim = 40
spec w.Span = 41
spec w.Extent = 42
spec w.Owns = 43
spec w.DestroyClaim = 44
spec w.MakeClaim = 45
spec w.In = 46
spec w.True = 47
spec w.False = 48
spec w.This = 49
spec w.Me = 50
spec w.Result = 51
spec w.Old = 52
spec w.Unchanged = 53
spec w.Mine = 54
spec w.Wrapped = 55
spec w.WrappedUnclaimed = 56
spec w.Mutable = 57
spec w.Fresh = 58
spec w.ClaimsObject = 59
spec w.Claims = 60
spec w.ClaimsOnly = 61
spec w.Approves = 62
spec w.Closed = 63
spec w.Owner = 64
spec w.ClaimCount = 65
spec w.Forall = 66
spec w.Exists = 67

abbrev pub sign : Sign → ℕ
sign s.Open = 68
sign s.Close = 69
sign s.BraceOpen = 70
sign s.BraceClose = 71
sign s.BracketOpen = 72
sign s.BracketClose = 73
sign s.Annotation = 74
sign s.Semicolon = 75
sign s.Comma = 76
sign s.Arrow = 77
sign s.Assign = 78
sign s.AddAssign = 79
sign s.SubtractAssign = 80
sign s.Increment = 81
sign s.Decrement = 82
sign s.Equal = 83
sign s.NotEqual = 84
sign s.Less = 85
sign s.LessEqual = 86
sign s.Greater = 87
sign s.GreaterEqual = 88
sign s.Plus = 89
sign s.Minus = 90
sign s.Star = 91
sign s.Slash = 92
sign s.Percent = 93
sign s.Not = 94
sign s.And = 95
sign s.Or = 96
sign s.Question = 97
sign s.Colon = 98
sign s.Ampersand = 99
sign s.Implies = 100
sign s.Equivalent = 101
sign s.Dot = 102
sign s.Bar = 103
sign s.Caret = 104
sign s.Tilde = 105

abbrev pub class_of : Word → ℕ
class_of End = 0
class_of (Name x) = 1
class_of (Number n ty) = 2
class_of OtherSpec = 3
class_of (Key x) = key x
class_of (Spec x) = spec x
class_of (Mark x) = sign x

abbrev pub class : Lexeme → ℕ
class t = class_of t.word

-- some token of the class
abbrev pub of_class : ℕ → Lexeme
of_class c = record { word = slice_index_or words c End; place = record { line = 1; column = 1 }; start = 0; end = 0 }
