-- What the conditions of types and claims speak of, in code as nodes of a graph. Own.
use Rattle.std.specs.Prelude.{ℕ, List, [], ◌∷◌}
use Rattle.terms.specs.declared.term.Term.{Term}
use Rattle.terms.specs.declared.term.Kind.TheVariants as k
use Rattle.terms.specs.Formula.{Formula}
use Rattle.conditions.specs.Formulas.{node, nat, eq, typ, closed}
use Rattle.conditions.specs.Admissible.{object, earlier, later}
use Rattle.condition_formulas.specs.Standing.{StandsAs}
use Rattle.condition_claims.specs.declared.admissible.Setting.{Setting}

-- the code's nodes are the object, and the heaps before and after a step
pub record IsSetting (ts : List Term) (c : Setting) : Type 0 where
  pub object_is : StandsAs ts c.object object
  pub before_is : StandsAs ts c.before earlier
  pub after_is : StandsAs ts c.after later

-- a kept step from a good heap, which leaves the object closed
abbrev pub kept_step : ℕ → List Formula
kept_step ty = node k.Good (earlier ∷ []) ∷ node k.Kept (earlier ∷ later ∷ []) ∷ eq (typ object) (nat ty) ∷ closed later object ∷ []
