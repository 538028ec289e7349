-- Quantified formulas by their numbers, in code. Own.
use Rattle.std.specs.Prelude.{◌≡◌, ℕ, suc, nat_le, if◌then◌else◌, List, [], ◌∷◌, map}
use Rattle.terms.specs.declared.term.Term.{Term}
use Rattle.terms.specs.declared.sort.Sort.{Sort}
use Rattle.term_meaning.specs.Meaning.{Quantified as Formula}
use Rattle.condition_formulas.specs.Standing.{StandsAs, StandAll}
use Rattle.quantified_formulas.specs.declared.quantified.Quantified.{Quantified}
use Rattle.program_language.specs.declared.numbered.Body.{Body}

-- one more than the greatest number of these
abbrev pub bound_of : List Quantified → ℕ
bound_of [] = 0
bound_of (q ∷ qs) = if nat_le (suc q.number) (bound_of qs) then bound_of qs else suc q.number

-- the code's formula is the definition's
pub record IsBody (ts : List Term) (c : Body) (q : Formula) : Type 0 where
  pub holes_are : c.holes ≡ q.holes
  pub body_is : StandsAs ts c.body q.body

-- one by one
pub record AreBodies (ts : List Term) (holes : List (List Sort)) (bodies : List ℕ) (qs : List Formula) : Type 0 where
  pub holes_are : holes ≡ map (λ (q : Formula). q.holes) qs
  pub bodies_are : StandAll ts bodies (map (λ (q : Formula). q.body) qs)
