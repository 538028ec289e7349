-- Rules 12 to 14: owned sets, wrapping and claims.
use Rattle.std.specs.Prelude.{Bool, true, false, not, ◌&&◌, ◌||◌, List, [], flat_map}
use Rattle.c_syntax.specs.declared.token.Span.{Span}
use Rattle.c_syntax.specs.Expressions as e
use Rattle.c_syntax.specs.Expressions.{Exp}
use Rattle.c_syntax.specs.Ghosts as g
use Rattle.c_syntax.specs.Ghosts.{OwnsEffect}
use Rattle.c_syntax.specs.Statements as st
use Rattle.c_syntax.specs.Grammar.{first_place}
use Rattle.c_syntax.specs.Items.{StructTree}
use Rattle.typing_spec.specs.Declarations.{is_claimable, has_dynamic_owns, has_volatile_owns}
use Rattle.typing_spec.specs.Contexts.{Context, ghost}
use Rattle.typing_spec.specs.Types.{Kind, Pointer, Claim, is_pointer, kind}
use Rattle.typing_spec.specs.Pieces.{Piece, Statement, GhostStatement, NewClaim}
use Rattle.typing_spec.specs.Places.{place_if, fails}

abbrev pub is_whole : OwnsEffect → Bool
is_whole (g.Become xs) = true
is_whole _ = false

-- outside an atomic block each struct whose owned set isn't fixed; inside, only one with a volatile set, and only member by member
abbrev pub may_change : Bool → OwnsEffect → StructTree → Bool
may_change false y s = has_dynamic_owns s || has_volatile_owns s
may_change true y s = has_volatile_owns s && not (is_whole y)

abbrev pub takes_change : Bool → OwnsEffect → Kind → Bool
takes_change inside y (Pointer s) = may_change inside y s
takes_change inside y _ = true

-- Rule 12: `\owns` is changed on a type with neither `dynamic_owns` nor `volatile_owns`; inside an atomic block, `=` is used or the type lacks `volatile_owns`. At the `\owns`. VCC manual.
abbrev pub owns_change : Piece → List Span
owns_change (GhostStatement c (g.Owns p (e.Owns a x w) q y)) = place_if (fails (takes_change c.in_atomic y) (kind c.scope x)) w
owns_change _ = []

abbrev pub wrapped : Context → Exp → List Span
wrapped c x = place_if (fails is_pointer (kind c.scope x)) (first_place x)

-- Rule 13: something else than a `struct T *` is wrapped or unwrapped, at the operand. VCC manual.
abbrev pub wrap_operand : Piece → List Span
wrap_operand (Statement c (st.Wrap p x)) = wrapped (ghost c) x
wrap_operand (Statement c (st.Unwrap p x)) = wrapped (ghost c) x
wrap_operand (Statement c (st.Unwrapping p x ss q)) = wrapped (ghost c) x
wrap_operand (GhostStatement c (g.Wrap p x)) = wrapped c x
wrap_operand (GhostStatement c (g.Unwrap p x)) = wrapped c x
wrap_operand _ = []

abbrev pub may_be_claimed : Kind → Bool
may_be_claimed Claim = false
may_be_claimed (Pointer s) = is_claimable s
may_be_claimed _ = true

-- Rule 14: a claim is made of a `\claim`, or of a `struct T *` whose T isn't claimable, at the object. VCC manual; own: there are no claims of claims.
abbrev pub claimed : Piece → List Span
claimed (NewClaim c xs y) = flat_map (λ x. place_if (fails may_be_claimed (kind c.scope x)) (first_place x)) xs
claimed _ = []
