-- Rows of the grammar, as the reader goes through them.
use Rattle.std.specs.Prelude.{ℕ, suc, max, nat_le, ◌==◌, Bool, false, ◌&&◌, if◌then◌else◌, List, [], ◌∷◌, Option, None, Some, Ok, Err}
use Rattle.ebnf.specs.Rules.{token, below, nothing, by_value, by_next, many, form}
use Rattle.ebnf.specs.Sets.{has, first}
use Rattle.ebnf.specs.Derives.{next}
use Rattle.ebnf.specs.Reading.{Out, TooDeep, on}
use Rattle.c_syntax.specs.declared.token.Span.{Span}
use Rattle.c_syntax.specs.declared.token.Keyword.{Keyword}
use Rattle.c_syntax.specs.declared.token.Keyword.TheVariants as k
use Rattle.c_syntax.specs.declared.token.Sign.{Sign}
use Rattle.c_syntax.specs.declared.token.Sign.TheVariants as s
use Rattle.c_syntax.specs.declared.tree.Interlocked.{Interlocked}
use Rattle.c_syntax.specs.Classes.{key, sign}
use Rattle.c_syntax.specs.Lexing.{Lexeme}
use Rattle.c_syntax.specs.Language.{language}
use Rattle.c_syntax.specs.Expressions as e
use Rattle.c_syntax.specs.Expressions.{Id, Exp, Inter, Comparison, Rhs, Assignment}
use Rattle.c_syntax.specs.Grammar as g
use Rattle.c_syntax.specs.Grammar.{P, R, ◌▷◌, word, name}
use Rattle.reader_expressions.specs.Reading.{part}

-- the name in the brackets behind `sizeof`, and the brackets' ends
abbrev pub struct_inside : P (Span → Span → Span → Span → Id)
struct_inside = word (key k.Struct) ▷ name ▷ word (sign s.Close) ▷ word (sign s.Close) ▷ nothing (λ d c x st b z a m. x)

-- one ghost argument of a call
abbrev pub ghost_argument : P Exp
ghost_argument = below g.GhostArgument (λ x. x)

-- ---- Interlocked calls

-- an Interlocked function's word
abbrev pub locked_by : Keyword → Interlocked → P (Span × Interlocked)
locked_by x f = token (key x) 0 (λ y. (y.place, f))

-- an Interlocked call, with what it may be compared with
abbrev pub locked_call : P (Inter × Option Comparison)
locked_call = below g.InterlockedCall (λ x. x)

-- a comma and an argument
abbrev pub further : P Exp
further = word (sign s.Comma) ▷ g.code ▷ nothing (λ x m. x)

abbrev pub all_further : P (List Exp)
all_further = many further (λ xs. xs)

-- the brackets of an Interlocked call, as what they make of its word
abbrev pub locked_arguments : P (Span × Interlocked → Inter × Option Comparison)
locked_arguments = word (sign s.Open) ▷ word (sign s.Ampersand) ▷ below g.AnyPlace (λ x. x) ▷ all_further ▷ word (sign s.Close) ▷ nothing (λ c xs x a o w. (record { place = w.0; function = w.1; field = x; arguments = xs }, None))

-- an Interlocked call that is compared with nothing
abbrev pub locked : R (Inter × Option Comparison)
locked = form (g.locked_word ▷ locked_arguments)

-- a sign and what the call is compared with
abbrev pub compared : Sign → Bool → P Comparison
compared x b = word (sign x) ▷ g.code ▷ nothing (λ y o. record { place = o; is_equal = b; other = y })

-- an Interlocked call so high, and what is read behind it: a comparison at most
abbrev pub compare : ℕ → Inter → ℕ → List Lexeme → Out language (Inter × Option Comparison)
compare room x k ts =
    if has (first language g.comparison) (next language ts) then (if nat_le (max k 1) room then on language (part room g.comparison ts) (λ y i rest. Ok ((x, Some y), suc (max k i), rest)) else Err (TooDeep, ts))
    else Ok ((x, None), k, ts)

-- ---- what a right side begins with

-- `(` and `struct` come next
abbrev pub begins_cast : List Lexeme → Bool
begins_cast [] = false
begins_cast (x ∷ rest) = (language.class x == sign s.Open) && (next language rest == key k.Struct)

-- a cast behind its `(`
abbrev pub cast_tail : P (Span → g.Begun)
cast_tail = g.struct_pointer ▷ word (sign s.Close) ▷ nothing (λ c x o. g.Cast x.1)

abbrev pub cast : R g.Begun
cast = form (word (sign s.Open) ▷ cast_tail ▷ nothing (λ f o. f o))

-- ---- right sides

-- `malloc` behind a cast
abbrev pub malloc_tail : P (g.Begun → g.Pending)
malloc_tail = word (key k.Malloc) ▷ g.size_of ▷ nothing (λ f m x. g.Done (e.Malloc (g.cast_name x) m (f m)))

-- the brackets of a call, behind what may be a name
abbrev pub called : P (g.Pending → Rhs)
called = g.call_tail ▷ nothing (λ f x. e.Called (f (g.callee x)))

abbrev pub called_or_done : P (g.Pending → Rhs)
called_or_done = by_next called (nothing g.done)

-- a name so high, and what is read behind it
abbrev pub name_or_call : ℕ → Id → ℕ → List Lexeme → Out language Rhs
name_or_call room x k ts = on language (part room called_or_done ts) (λ f i rest. Ok (f (g.Open (e.Name x)), max k i, rest))

-- an expression, a call, or a `malloc` behind a cast
abbrev pub value_or_call : P Rhs
value_or_call = by_value g.cast_done g.is_bare called_or_done (nothing g.done)

-- a `malloc` without a cast
abbrev pub malloc_right : P Rhs
malloc_right = below g.Allocation (λ x. e.Malloc None x.0 x.1)

abbrev pub locked_right : P Rhs
locked_right = below g.InterlockedCall (λ x. e.Locked x.0 x.1)

-- ---- assignments

abbrev pub set_tail : P (Exp → Assignment)
set_tail = word (sign s.Assign) ▷ g.rhs ▷ nothing (λ x o l. record { left = l; place = o; effect = e.Set x })

abbrev pub add_behind : P (Exp → Assignment)
add_behind = word (sign s.AddAssign) ▷ g.code ▷ nothing (λ x o l. record { left = l; place = o; effect = e.Add x })

abbrev pub subtract_behind : P (Exp → Assignment)
subtract_behind = word (sign s.SubtractAssign) ▷ g.code ▷ nothing (λ x o l. record { left = l; place = o; effect = e.Subtract x })

abbrev pub step_behind : P (Exp → Assignment)
step_behind = by_next (token (sign s.Increment) 0 (λ x l. record { left = l; place = x.place; effect = e.Increment })) (token (sign s.Decrement) 0 (λ x l. record { left = l; place = x.place; effect = e.Decrement }))

-- a left side so high, and what is read behind it
abbrev pub assigned : ℕ → Exp → ℕ → List Lexeme → Out language Assignment
assigned room x k ts = on language (part room g.assignment_tail ts) (λ f i rest. Ok (f x, suc (max k i), rest))

abbrev pub assigned_name : R Assignment
assigned_name = form (below g.NamePlace (λ x. x) ▷ g.assignment_tail ▷ nothing (λ f l. f l))

abbrev pub assigned_other : R Assignment
assigned_other = form (below g.OtherPlace (λ x. x) ▷ g.assignment_tail ▷ nothing (λ f l. f l))
