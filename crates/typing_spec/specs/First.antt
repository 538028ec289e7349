-- Which rules a program breaks, and which is the first in its text. Places are ordered by line and column; of several rules that are broken at one place the one with the smallest number comes first.
use Rattle.std.specs.Prelude.{◌≡◌, ℕ, Bool, true, ◌&&◌, ◌||◌, ◌==◌, nat_lt, nat_le, if◌then◌else◌, List, [], ◌∷◌, ◌++◌, Option, Some, None, Contains, map, flat_map}
use Rattle.c_syntax.specs.declared.token.Span.{Span}
use Rattle.c_syntax.specs.Items.{Item}
use Rattle.typing_spec.specs.Rules as r
use Rattle.typing_spec.specs.Rules.{Rule, number, all_rules}
use Rattle.typing_spec.specs.Pieces.{Piece, pieces}
use Rattle.typing_spec.specs.Names.{undeclared, declared_twice}
use Rattle.typing_spec.specs.Operands.{operands, arrow}
use Rattle.typing_spec.specs.Conversions.{unconverted, argument_count}
use Rattle.typing_spec.specs.GhostCode.{ghost_in_code, ghost_writes}
use Rattle.typing_spec.specs.Atomic.{in_atomic, second_access, interlocked_call}
use Rattle.typing_spec.specs.Ownership.{owns_change, wrap_operand, claimed}
use Rattle.typing_spec.specs.SpecWords.{invariant_reads, old_place, result_place, this_place}
use Rattle.typing_spec.specs.Properties.{quantifier_form, property_form}
use Rattle.typing_spec.specs.Functions.{return_form, spawned_value, struct_form, no_main}
use Rattle.typing_spec.specs.Approval.{approval_form}

-- the places at which a piece breaks a rule; that there is no `main` is no piece's fault
abbrev pub places : Rule → Piece → List Span
places r.Undeclared = undeclared
places r.DeclaredTwice = declared_twice
places r.Operands = operands
places r.Conversion = unconverted
places r.ArgumentCount = argument_count
places r.Arrow = arrow
places r.GhostInCode = ghost_in_code
places r.GhostWrites = ghost_writes
places r.InAtomic = in_atomic
places r.SecondAccess = second_access
places r.InterlockedCall = interlocked_call
places r.OwnsChange = owns_change
places r.WrapOperand = wrap_operand
places r.Claimed = claimed
places r.InvariantReads = invariant_reads
places r.QuantifierForm = quantifier_form
places r.OldPlace = old_place
places r.ResultPlace = result_place
places r.ThisPlace = this_place
places r.PropertyForm = property_form
places r.ReturnForm = return_form
places r.SpawnedValue = spawned_value
places r.StructForm = struct_form
places r.NoMain = λ x. []
places r.ApprovalForm = approval_form

-- the places at which a program breaks a rule, where its text ends at the last place
abbrev pub broken_at : List Item → Span → Rule → List Span
broken_at items end r.NoMain = no_main items end
broken_at items end rule = flat_map (places rule) (pieces items)

-- The program breaks the rule at the place.
abbrev pub Breaks : List Item → Span → Rule → Span → Type 0
Breaks items end rule place = Contains (broken_at items end rule) place

-- no rule is broken
abbrev pub IsWellTyped : List Item → Span → Type 0
IsWellTyped items end = (rule : Rule) (place : Span) → Breaks items end rule place → ⊥

-- ---- the first

-- a broken rule, and where
abbrev pub Fault : Type 0
Fault = Rule × Span

-- below in the first number, or equal there and so in the rest
abbrev pub below_or : ℕ → ℕ → Bool → Bool
below_or a b rest = nat_lt a b || ((a == b) && rest)

-- the first of the two stands earlier in the text, or at the same place and its number is no greater
abbrev pub not_later : Fault → Fault → Bool
not_later x y = below_or x.1.line y.1.line (below_or x.1.column y.1.column (nat_le (number x.0) (number y.0)))

-- The rule is broken at the place, and none is earlier, nor there with a smaller number.
pub record IsFirstBroken (items : List Item) (end : Span) (rule : Rule) (place : Span) : Type 0 where
  pub is_broken : Breaks items end rule place
  pub is_first : (other : Rule) (there : Span) → Breaks items end other there → not_later (rule, place) (other, there) ≡ true

-- ---- as a value

abbrev pub all_at : Rule → List Span → List Fault
all_at rule = map (λ place. (rule, place))

-- what a piece breaks
abbrev pub faults : Piece → List Fault
faults x = flat_map (λ rule. all_at rule (places rule x)) all_rules

-- what a program breaks
abbrev pub broken : List Item → Span → List Fault
broken items end = flat_map faults (pieces items) ++ all_at r.NoMain (no_main items end)

abbrev pub earlier : Option Fault → Option Fault → Option Fault
earlier None y = y
earlier (Some x) None = Some x
earlier (Some x) (Some y) = if not_later x y then Some x else Some y

abbrev pub first_of : List Fault → Option Fault
first_of [] = None
first_of (x ∷ xs) = earlier (Some x) (first_of xs)

-- the first broken rule of a program, if there is any
abbrev pub first_broken : List Item → Span → Option Fault
first_broken items end = first_of (broken items end)
