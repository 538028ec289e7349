-- Rules 9 to 11: atomic blocks and Interlocked calls.
use Rattle.std.specs.Prelude.{ℕ, Bool, true, false, not, ◌&&◌, ◌||◌, ◌==◌, List, [], ◌∷◌, drop, flat_map, length}
use Rattle.c_syntax.specs.declared.token.Span.{Span}
use Rattle.c_syntax.specs.declared.tree.Interlocked.{Interlocked}
use Rattle.c_syntax.specs.declared.tree.Interlocked.TheVariants as locked
use Rattle.c_syntax.specs.Expressions as e
use Rattle.c_syntax.specs.Expressions.{Ty, Exp, Inter, Rhs, Effect}
use Rattle.c_syntax.specs.Ghosts as g
use Rattle.c_syntax.specs.Ghosts.{GStm}
use Rattle.c_syntax.specs.Statements as st
use Rattle.c_syntax.specs.Statements.{Stm, Stms}
use Rattle.c_syntax.specs.Items.{FieldTree}
use Rattle.typing_spec.specs.Contexts.{Context, inside_atomic}
use Rattle.typing_spec.specs.Values.{field_named}
use Rattle.typing_spec.specs.Pieces.{Piece, Statement, GhostStatement, Assigned, Interlocked as InterlockedPiece, Expression, expression, in_statements}
use Rattle.typing_spec.specs.Places.{place_if, places_if}
use Rattle.typing_spec.specs.GhostCode.{field_is, is_code}

-- ---- rule 9

abbrev pub is_call_or_malloc : Effect → Bool
is_call_or_malloc (e.Set (e.Malloc x p y)) = true
is_call_or_malloc (e.Set (e.Called x)) = true
is_call_or_malloc _ = false

-- a statement that no atomic block holds, at its first token
abbrev pub never_atomic : Stm → List Span
never_atomic (st.Declare p ty x r) = p ∷ []
never_atomic (st.Assign p x) = place_if (is_call_or_malloc x.effect) p
never_atomic (st.Call p x) = p ∷ []
never_atomic (st.If p x s) = p ∷ []
never_atomic (st.IfElse p x s t) = p ∷ []
never_atomic (st.While p x is s) = p ∷ []
never_atomic (st.Do p is s q x) = p ∷ []
never_atomic (st.For p a x b is s) = p ∷ []
never_atomic (st.Return p x) = p ∷ []
never_atomic (st.Spawn p x) = p ∷ []
never_atomic (st.Free p x) = p ∷ []
never_atomic (st.Assert p x) = p ∷ []
never_atomic (st.Wrap p x) = p ∷ []
never_atomic (st.Unwrap p x) = p ∷ []
never_atomic (st.Unwrapping p x ss q) = p ∷ []
never_atomic (st.Atomic p xs ss q) = p ∷ []
never_atomic _ = []

abbrev pub ghost_never_atomic : GStm → List Span
ghost_never_atomic (g.Declare p ty x r) = p ∷ []
ghost_never_atomic (g.Wrap p x) = p ∷ []
ghost_never_atomic (g.Unwrap p x) = p ∷ []
ghost_never_atomic _ = []

-- Rule 9: a declaration, call, wrap, unwrap, malloc, free, spawn, loop, concrete `if`, return, assert, unwrapping or atomic stands inside an atomic block, at its first token. VCC manual.
abbrev pub in_atomic : Piece → List Span
in_atomic (Statement c s) = places_if c.in_atomic (never_atomic s)
in_atomic (GhostStatement c s) = places_if c.in_atomic (ghost_never_atomic s)
in_atomic _ = []

-- ---- rule 10

-- an access of concrete code to a volatile field
abbrev pub access : Piece → List Span
access (Expression c (e.Field p x y)) = places_if (is_code c.text) (place_if (field_is (λ f. f.is_volatile) (field_named c.scope (e.Field p x y))) y.place)
access _ = []

-- `x += e` is `x = x + e`: its left side is read once more
abbrev pub again : Context → Exp → Effect → List Span
again c x (e.Set r) = []
again c x _ = flat_map access (expression c x)

abbrev pub accesses : Piece → List Span
accesses (Assigned c a) = again c a.left a.effect
accesses x = access x

-- Rule 10: an atomic block has two concrete accesses to volatile fields, at the field's name of each but the first. VCC manual; own: accesses are counted in the text, and an Interlocked call is one.
abbrev pub second_access : Piece → List Span
second_access (Statement c (st.Atomic p xs ss q)) = drop 1 (flat_map accesses (in_statements (inside_atomic c) ss))
second_access _ = []

-- ---- rule 11

-- how many arguments stand behind the field
abbrev pub others : Interlocked → ℕ
others locked.CompareExchange = 2
others locked.Exchange = 1
others locked.Increment = 0
others locked.Decrement = 0

abbrev pub is_integer_type : Ty → Bool
is_integer_type (e.Integer ty) = true
is_integer_type _ = false

abbrev pub is_exchangeable : FieldTree → Bool
is_exchangeable f = f.is_volatile && is_integer_type f.ty

-- Rule 11: an Interlocked call stands outside an atomic block, on a field that isn't a volatile integer, or with a wrong number of arguments, at its name. VCC manual.
abbrev pub interlocked_call : Piece → List Span
interlocked_call (InterlockedPiece c x y) =
    place_if (not c.in_atomic || (field_is (λ f. not (is_exchangeable f)) (field_named c.scope x.field) || not (length x.arguments == others x.function))) x.place
interlocked_call _ = []
