-- The lemmas that were made of conclusions. Own.
use Rattle.std.specs.Prelude.{◌≡◌, ℕ, List, [], Option, slice_get, option_and_then}
use Rattle.terms.specs.declared.term.Term.{Term}
use Rattle.terms.specs.Formula.{Formula}
use Rattle.term_meaning.specs.Meaning.{Language}
use Rattle.condition_formulas.specs.Standing.{StandsAs}
use Rattle.certificate_upgrade.specs.Conclusions.{Conclusion}
use Rattle.certificate_upgrade.specs.Lemmas.{lemma_conclusions, lemmas_over, trees_of}
use Rattle.certificate_upgrade.specs.Upgrade.{place_of}
use Rattle.upgrade_lemmas.specs.declared.lemmas.Lemmas.{Lemmas}

-- what a table has for the node
abbrev pub place_at : List (Option ℕ) → ℕ → Option ℕ
place_at places id = option_and_then (λ place. place) (slice_get places id)

-- These are the lemmas of the conclusions; and each node of the graph has the place of its tree among them, if it has one.
pub record AreMade (l : Language) (ts : List Term) (cs : List Conclusion) (made : Lemmas) : Type 0 where
  pub list : made.list.items ≡ lemmas_over l [] (lemma_conclusions cs)
  pub places : (id : ℕ) (f : Formula) → StandsAs ts id f → place_at made.places.items id ≡ place_of f (trees_of (lemma_conclusions cs))
