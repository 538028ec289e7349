-- What expressions come to, in code as nodes of a graph. Own.
use Rattle.std.specs.Prelude.{List, [], ◌∷◌}
use Rattle.terms.specs.declared.term.Term.{Term}
use Rattle.terms.specs.Formula.{Formula}
use Rattle.conditions.specs.Symbolic as spec
use Rattle.condition_formulas.specs.declared.symbolic.Symbolic.{Symbolic}
use Rattle.condition_formulas.specs.declared.symbolic.Symbolic.TheVariants as code
use Rattle.condition_formulas.specs.Standing.{StandsAs}

-- of one kind, and the node is the tree
abbrev pub Alike : List Term → Symbolic → spec.Symbolic → Type 0
Alike ts (code.Truth id) (spec.Truth f) = StandsAs ts id f
Alike ts (code.Truth id) (spec.Number f) = ⊥
Alike ts (code.Truth id) (spec.Reference f) = ⊥
Alike ts (code.Number id) (spec.Truth f) = ⊥
Alike ts (code.Number id) (spec.Number f) = StandsAs ts id f
Alike ts (code.Number id) (spec.Reference f) = ⊥
Alike ts (code.Reference id) (spec.Truth f) = ⊥
Alike ts (code.Reference id) (spec.Number f) = ⊥
Alike ts (code.Reference id) (spec.Reference f) = StandsAs ts id f

-- the code's value is the definition's
pub record IsSymbolic (ts : List Term) (v : Symbolic) (w : spec.Symbolic) : Type 0 where
  pub is : Alike ts v w

abbrev pub EachSymbolic : List Term → List Symbolic → List spec.Symbolic → Type 0
EachSymbolic ts [] [] = Unit {0}
EachSymbolic ts [] (w ∷ ws) = ⊥
EachSymbolic ts (v ∷ vs) [] = ⊥
EachSymbolic ts (v ∷ vs) (w ∷ ws) = IsSymbolic ts v w × EachSymbolic ts vs ws

-- one by one
pub record AreSymbolic (ts : List Term) (vs : List Symbolic) (ws : List spec.Symbolic) : Type 0 where
  pub each : EachSymbolic ts vs ws

-- a choice has the kind of the first value, and a truth value is a number then
abbrev pub choice_like : spec.Symbolic → Formula → spec.Symbolic
choice_like (spec.Truth g) f = spec.Number f
choice_like (spec.Number g) f = spec.Number f
choice_like (spec.Reference g) f = spec.Reference f
