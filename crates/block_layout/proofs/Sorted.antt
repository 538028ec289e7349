-- The sorts of nodes.
use Rattle.std.proofs.Common.{◌≡◌, ℕ, ◌<◌, ◌≤◌, List, [], length, Option, Some, None, slice_get, refl, ap, sym, ◌∙◌, subst, arith}
use Rattle.std.proofs.lemmas.Option.{slice_get_within}
use Rattle.terms.specs.declared.term.Term.{Term}
use Rattle.terms.specs.declared.sort.Sort.{Sort}
use Rattle.terms.specs.Formula.{Formula}
use Rattle.term_meaning.specs.Meaning.{Language, sort_in}
use Rattle.condition_formulas.specs.Standing.{StandsAs}
use Rattle.term_sorts.specs.Sorting.{AreSortsIn}
use Rattle.block_layout.specs.Space.{IsSorted}
use Rattle.block_layout.specs.declared.space.Space.{Space}

pub sort_at : (l : Language) (space : Space) (id : ℕ) (f : Formula) (s : Option Sort) → IsSorted l space → StandsAs space.graph id f → slice_get space.sorts id ≡ Some s → s ≡ sort_in l f
sort_at l space id f s sorted is h = let e : Some s ≡ Some (sort_in l f) = sym h ∙ sorted.sort id f is in cc

pub no_sort : (l : Language) (space : Space) (id : ℕ) (f : Formula) → IsSorted l space → StandsAs space.graph id f → length space.sorts ≤ id → None ≡ sort_in l f
no_sort l space id f sorted is h = absurd (omega (arith, h, slice_get_within space.sorts id (sort_in l f) (sorted.sort id f is)))
