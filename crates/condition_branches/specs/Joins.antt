-- What stands behind a branch, in code: the variables, and what their new constants are at the two ends. Own.
use Rattle.std.specs.Prelude.{List, [], ◌∷◌, ◌++◌, map}
use Rattle.terms.specs.declared.term.Term.{Term}
use Rattle.conditions.specs.Actions as spec
use Rattle.conditions.specs.Code.{State}
use Rattle.conditions.specs.Symbolic.{Symbolic, term}
use Rattle.condition_formulas.specs.Standing.{StandAll}
use Rattle.condition_formulas.specs.Symbolics.{IsSymbolic, AreSymbolic}
use Rattle.condition_code.specs.States.{IsState}
use Rattle.condition_branches.specs.declared.variables.Joined.{Joined}
use Rattle.condition_branches.specs.declared.variables.Merge.{Merge}
use Rattle.condition_branches.specs.declared.variables.Merge.TheVariants as code

-- of one kind, and the values are the definition's
abbrev pub Alike : List Term → Merge → spec.Merge → Type 0
Alike ts (code.Keeps v) (spec.Keeps w) = IsSymbolic ts v w
Alike ts (code.Keeps v) (spec.Differs x y) = ⊥
Alike ts (code.Differs v u) (spec.Keeps w) = ⊥
Alike ts (code.Differs v u) (spec.Differs x y) = IsSymbolic ts v x × IsSymbolic ts u y

-- what becomes of a variable is what the definition says
pub record IsMerge (ts : List Term) (c : Merge) (m : spec.Merge) : Type 0 where
  pub is : Alike ts c m

-- the variables and the state are the definition's, and each new constant has its two equations
pub record IsJoined (ts : List Term) (c : Joined) (j : spec.Joined) : Type 0 where
  pub locals_are : AreSymbolic ts c.locals.items j.locals
  pub first_are : StandAll ts c.first.items (map spec.equal_first j.joints)
  pub second_are : StandAll ts c.second.items (map spec.equal_second j.joints)
  pub state_is : IsState ts c.state j.state

-- variables, constants and a state
abbrev pub joined_of : List Symbolic → List spec.Joint → State → spec.Joined
joined_of ws js s = record { locals = ws; joints = js; state = s }

-- one variable more, with this value
abbrev pub then_keeps : spec.Joined → Symbolic → spec.Joined
then_keeps j w = joined_of (j.locals ++ w ∷ []) j.joints j.state

-- one more, whose constant is v
abbrev pub then_joint : spec.Joined → Symbolic → Symbolic → Symbolic → State → spec.Joined
then_joint j v x y s = joined_of (j.locals ++ v ∷ []) (j.joints ++ record { new = term v; first = term x; second = term y } ∷ []) s

-- one more, with a new constant for these two values
abbrev pub then_differs : spec.Joined → Symbolic → Symbolic → spec.Joined
then_differs j x y = then_joint j (spec.new_like x j.state).value x y (spec.new_like x j.state).state

-- one more, of which that becomes
abbrev pub then_one : spec.Joined → spec.Merge → spec.Joined
then_one j (spec.Keeps w) = then_keeps j w
then_one j (spec.Differs x y) = then_differs j x y

-- these variables and constants, and then those
abbrev pub onto : spec.Joined → spec.Joined → spec.Joined
onto j r = joined_of (j.locals ++ r.locals) (j.joints ++ r.joints) r.state
