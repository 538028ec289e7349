-- The formulas of lists of annotations, as the code has them. Own.
use Rattle.std.specs.Prelude.{List, map}
use Rattle.method.specs.declared.program.Program.{Program}
use Rattle.method.specs.declared.program.Spec.{Spec}
use Rattle.method.specs.declared.program.Hole.{Hole}
use Rattle.terms.specs.Formula.{Formula}
use Rattle.conditions.specs.Symbolic.{term}
use Rattle.conditions.specs.Annotations.{Scene, translate, formula, hole_value}

-- their truths
abbrev pub each_test : Program → List Spec → Scene → List Formula
each_test p es s = map (λ e. formula p e s) es

-- their terms
abbrev pub each_term : Program → List Spec → Scene → List Formula
each_term p es s = map (λ e. term (translate p e s)) es

-- the terms that fill these holes
abbrev pub hole_terms : List Hole → Scene → List Formula
hole_terms holes s = map (λ h. term (hole_value s h)) holes
