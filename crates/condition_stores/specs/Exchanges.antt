-- An Interlocked operation, piece by piece. Own.
use Rattle.std.specs.Prelude.{ℕ, Bool, if◌then◌else◌, List, [], ◌∷◌, Option}
use Rattle.int_ranges.specs.declared.ctype.CType.{CType}
use Rattle.terms.specs.Formula.{Formula}
use Rattle.method.specs.Actions.{counts}
use Rattle.method.specs.Tables.{type_of_field}
use Rattle.method.specs.declared.program.Expr.{Expr}
use Rattle.method.specs.declared.program.Operation.{Operation}
use Rattle.method.specs.declared.program.Program.{Program}
use Rattle.conditions.specs.Actions.{convert_to, equality}
use Rattle.conditions.specs.Code.{Spot, State, ValueAndState, code}
use Rattle.conditions.specs.Formulas.{all_of}
use Rattle.conditions.specs.Paths.{Execution, Gives, after}
use Rattle.conditions.specs.Symbolic.{Symbolic, term, ranges}

-- what is checked of a new value: of a count its range
abbrev pub range_checks : Program → Operation → ℕ → Formula → List Formula
range_checks p op f now = if counts op then all_of (ranges (type_of_field p f) now) ∷ [] else []

-- the other value is worked out, and the comparison with it converted
abbrev pub compared_as : Program → Spot → Bool → Expr → Option CType → Symbolic → State → Execution ValueAndState
compared_as p a equal e last x st =
    after (code p a st e) (λ y. after (convert_to p a last (equality p a equal (term x) (term y))) (λ w. Gives (record { value = w; state = st })))
