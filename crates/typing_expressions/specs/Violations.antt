-- What pieces of a program break, in the one pass that finds it: own.
use Rattle.std.specs.Prelude.{Bool, List, [], ◌∷◌, Option, Some, None, drop, flat_map, if◌then◌else◌}
use Rattle.std.specs.Option.{option_map}
use Rattle.c_syntax.specs.declared.token.Span.{Span}
use Rattle.c_syntax.specs.Expressions.{Exp}
use Rattle.typing_spec.specs.Contexts.{Context}
use Rattle.typing_spec.specs.Types.{Kind, kind}
use Rattle.typing_spec.specs.Rules as r
use Rattle.typing_spec.specs.Rules.{Rule}
use Rattle.typing_spec.specs.Pieces.{Piece, expression}
use Rattle.typing_spec.specs.Atomic.{accesses}
use Rattle.typing_spec.specs.First.{Fault, faults, first_of, earlier, all_at}

-- What pieces break first; and for an atomic block around them, their first access to a volatile field, and what their further accesses break first.
pub record Violations : Type 0 where
  pub first : Option Fault
  pub access : Option Span
  pub later : Option Fault

abbrev pub front : List Span → Option Span
front [] = None
front (p ∷ ps) = Some p

-- what accesses break that aren't the first of their block
abbrev pub further : List Span → Option Fault
further ps = first_of (all_at r.SecondAccess ps)

unfoldable pub violations : List Piece → Violations
violations xs = record { first = first_of (flat_map faults xs); access = front (flat_map accesses xs); later = further (drop 1 (flat_map accesses xs)) }

-- nothing
abbrev pub nothing : Violations
nothing = record { first = None; access = None; later = None }

-- a broken rule alone
abbrev pub breaking : Option Fault → Violations
breaking f = record { first = f; access = None; later = None }

-- the rule at the place, if it is broken there
abbrev pub broken_if : Bool → Rule → Span → Option Fault
broken_if b rule p = if b then Some (rule, p) else None

-- an access, as what it breaks where it is a further one
abbrev pub as_further : Option Span → Option Fault
as_further = option_map (λ p. (r.SecondAccess, p))

-- what further accesses break, of pieces with this first access and others behind
abbrev pub further_of : Option Span → Option Fault → Violations → Option Fault
further_of None later g = g.later
further_of (Some p) later g = earlier later (earlier (as_further g.access) g.later)

abbrev pub one_of : Option Span → Option Span → Option Span
one_of None q = q
one_of (Some p) q = Some p

-- pieces, and joined others
abbrev pub joined : Violations → Violations → Violations
joined f g = record { first = earlier f.first g.first; access = one_of f.access g.access; later = further_of f.access f.later g }

-- what an expression is, and what breaks in it
pub record Judged : Type 0 where
  pub kind : Option Kind
  pub violations : Violations

abbrev pub judge : Context → Exp → Judged
judge c x = record { kind = kind c.scope x; violations = violations (expression c x) }
