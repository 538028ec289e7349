-- Changes of a listed object's fields. Own.
use Rattle.std.specs.Prelude.{ℕ, if◌then◌else◌, List, [], ◌∷◌}
use Rattle.terms.specs.Formula.{Formula}
use Rattle.method.specs.declared.program.Program.{Program}
use Rattle.method.specs.Tables.{is_approved}
use Rattle.conditions.specs.Actions.{may_count}
use Rattle.conditions.specs.Code.{Spot, is_listed}
use Rattle.conditions.specs.Formulas.{and', any_of}

-- the block lists o, and where the field is approved the owner of o has its part
abbrev pub listed_change : Program → Spot → Formula → ℕ → Formula → List Formula
listed_change p a o f h = if is_approved p f then and' (any_of (is_listed p a o)) (may_count p a h o) ∷ [] else is_listed p a o
