-- What values of the code stand for.
use Rattle.std.specs.Prelude.{Bool, true, false, Option, None, List, [], ◌∷◌}
use Rattle.std.specs.Option.{option_map}
use Rattle.c_syntax.specs.Views as view
use Rattle.typing_spec.specs.Contexts as c
use Rattle.c_syntax.specs.Ghosts as g
use Rattle.c_syntax.specs.Statements as st
use Rattle.c_syntax.specs.Statements.{Stm}
use Rattle.typing_symbols.specs.Whole.{program}
use Rattle.typing_statements.specs.declared.scopes.Surroundings.{Surroundings}
use Rattle.c_syntax.specs.declared.token.Span.{Span}
use Rattle.c_syntax.specs.Expressions.{Ty, Exp, Rhs}
use Rattle.c_syntax.specs.Ghosts.{Members, OwnsEffect, GhostRhs, GStm}
use Rattle.c_syntax.specs.Items.{Item}
use Rattle.typing_spec.specs.Contexts.{Context}
use Rattle.typing_spec.specs.Types.{Kind}
use Rattle.typing_spec.specs.Values.{right_kind, right_place, ghost_right_kind, ghost_right_place}
use Rattle.typing_spec.specs.Pieces.{Piece, Statement, GhostStatement, in_ghost, in_statement, expressions, right, members, owns_effect, ghost_right}
use Rattle.typing_spec.specs.Conversions.{Use, member_uses, owns_uses}
use Rattle.typing_spec.specs.First.{Fault, earlier}
use Rattle.typing_statements.specs.declared.arguments.Passed.{Passed}
use Rattle.typing_statements.specs.declared.rights.Given.{Given}
use Rattle.typing_statements.specs.declared.rights.Changed.{Changed}
use Rattle.typing_statements.specs.Breaks as b
use Rattle.typing_expressions.specs.Violations.{Violations, violations, joined}
use Rattle.typing_expressions.specs.Judging.{unconverted}
use Rattle.typing_expressions.specs.Views.{findings, maybe_broken, maybe_kind, text}

-- values in a row: what breaks in them, and the first that doesn't convert to what is wanted of it. Own
pub record Values : Type 0 where
  pub violations : Violations
  pub unconverted : Option Fault

abbrev pub values_of : Passed → Values
values_of x = record { violations = findings x.violations; unconverted = maybe_broken x.unconverted }

-- with one more
abbrev pub one_more : Values → Violations → Option Fault → Values
one_more x f o = record { violations = joined x.violations f; unconverted = earlier x.unconverted o }

-- expressions of which these are wanted
abbrev pub values : Context → List Exp → List Use → Values
values c xs us = record { violations = violations (expressions c xs); unconverted = unconverted us }

-- what a right side gives, where it stands, and what breaks in it. Own
pub record RightSide : Type 0 where
  pub kind : Option Kind
  pub place : Span
  pub violations : Violations

abbrev pub given : Given → RightSide
given x = record { kind = maybe_kind x.kind; place = x.place; violations = findings x.violations }

abbrev pub changed : Changed → b.Change
changed x = record { own_misfit = x.own_misfit; unconverted = maybe_broken x.unconverted; reads_left = x.reads_left; violations = findings x.violations }

abbrev pub right_side : Context → Rhs → RightSide
right_side c x = record { kind = right_kind c.scope x; place = right_place x; violations = violations (right c x) }

-- values of which these are wanted, in pieces
abbrev pub values_found : List Piece → List Use → Values
values_found xs us = record { violations = violations xs; unconverted = unconverted us }

abbrev pub member_values : Context → Members → Values
member_values c x = values_found (members c x) (member_uses c x)

abbrev pub owns_values : Context → OwnsEffect → Values
owns_values c x = values_found (owns_effect c x) (owns_uses c x)

abbrev pub ghost_side : Context → GhostRhs → RightSide
ghost_side c x = record { kind = ghost_right_kind c.scope x; place = ghost_right_place x; violations = violations (ghost_right c x) }

-- ---- what stands around statements

-- what stands around a statement, but for the variables. Own
pub record Fixed : Type 0 where
  pub items : List Item
  pub value : Option Ty
  pub text : c.Text
  pub in_atomic : Bool
  pub in_unwrapping : Bool

abbrev pub fixed : Surroundings → Fixed
fixed x = record { items = program x.declarations.now; value = option_map (λ t. view.ty t.now) x.value; text = text x.text; in_atomic = x.in_atomic; in_unwrapping = x.in_unwrapping }

-- with these variables, the innermost first
abbrev pub within : Fixed → List c.Variable → Context
within x vs = record {
  scope = record { items = x.items; variables = vs; this = None; result = None };
  value = x.value;
  text = x.text;
  property = c.Outside;
  in_old = false;
  in_atomic = x.in_atomic;
  in_unwrapping = x.in_unwrapping;
}

abbrev pub as_ghost : Fixed → Fixed
as_ghost x = record x { text = c.GhostCode }

abbrev pub in_atomic_block : Fixed → Fixed
in_atomic_block x = record x { in_atomic = true }

abbrev pub in_unwrapping_block : Fixed → Fixed
in_unwrapping_block x = record x { in_unwrapping = true }

-- the variables that are known behind a statement
abbrev pub behind_ghost : GStm → List c.Variable → List c.Variable
behind_ghost (g.Declare p ty x r) vs = record { name = x; ty = ty; is_ghost = true } ∷ vs
behind_ghost _ vs = vs

abbrev pub following : Stm → List c.Variable → List c.Variable
following (st.Declare p ty x r) vs = record { name = x; ty = ty; is_ghost = false } ∷ vs
following (st.Ghost p s) vs = behind_ghost s vs
following _ vs = vs

-- behind several
abbrev pub behind_ghosts : List GStm → List c.Variable → List c.Variable
behind_ghosts [] vs = vs
behind_ghosts (s ∷ ss) vs = behind_ghosts ss (behind_ghost s vs)

abbrev pub behind_all : List Stm → List c.Variable → List c.Variable
behind_all [] vs = vs
behind_all (s ∷ ss) vs = behind_all ss (following s vs)

-- a statement, and what stands in it
abbrev pub ghost_pieces : Context → GStm → List Piece
ghost_pieces x s = GhostStatement x s ∷ in_ghost x s

abbrev pub statement_pieces : Context → Stm → List Piece
statement_pieces x s = Statement x s ∷ in_statement x s
