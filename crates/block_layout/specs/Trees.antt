-- The terms of a certificate's block as trees: the condition's own terms, and the added ones behind them. Own: terms are numbered through, each above those that it names.
use Rattle.std.specs.Prelude.{◌≡◌, ℕ, List, [], ◌∷◌, ◌++◌, take, Option, Some, None, slice_get, option_map, option_and_then, Bool, true, false, if◌then◌else◌}
use Rattle.terms.specs.declared.term.Term.{Term}
use Rattle.terms.specs.Formula.{Formula, Node}
use Rattle.term_meaning.specs.Filling.{trees}
use Rattle.term_meaning.specs.Meaning.{Language, sort_in}

-- what the numbers name in a list, if each of them names something
abbrev pub named : {X : Type 0} → List X → List ℕ → Option (List X)
named xs [] = Some []
named xs (n ∷ ns) = option_and_then (λ x. option_map (λ more. x ∷ more) (named xs ns)) (slice_get xs n)

-- the tree of a term over the trees of the terms before it; none where it names a number that isn't below its own
abbrev pub tree_over : List Formula → Term → Option Formula
tree_over before t = option_map (λ fs. Node t.kind t.index (trees fs)) (named before t.args)

abbrev pub is_some : {X : Type 0} → Option X → Bool
is_some None = false
is_some (Some x) = true

abbrev pub has_sort : Language → Formula → Bool
has_sort l f = is_some (sort_in l f)

-- the same, where the tree has a sort
abbrev pub sorted_tree : Language → List Formula → Term → Option Formula
sorted_tree l before t = option_and_then (λ f. if has_sort l f then Some f else None) (tree_over before t)

-- Behind the first trees the terms have these, one after the other, each over all trees before it.
abbrev pub Grow : (List Formula → Term → Option Formula) → List Formula → List Term → List Formula → Type 0
Grow tree first [] all = all ≡ first
Grow tree first (t ∷ ts) all = (f : Formula) × (tree first t ≡ Some f) × Grow tree (first ++ f ∷ []) ts all

-- These are the trees of the condition's own terms and, behind them, of the added ones, of which each names lower numbers alone and has a sort.
pub record AreTrees (l : Language) (own added : List Term) (all : List Formula) : Type 0 where
  pub first : List Formula
  pub own_trees : Grow tree_over [] own first
  pub added_trees : Grow (sorted_tree l) first added all

-- The added term with this number is the first bad one: it names a number that isn't below its own, or has no sort.
pub record IsFirstBad (l : Language) (own added : List Term) (k : ℕ) : Type 0 where
  pub before : List Formula
  pub good : AreTrees l own (take k added) before
  pub bad : Term
  pub at : slice_get added k ≡ Some bad
  pub no_tree : sorted_tree l before bad ≡ None
