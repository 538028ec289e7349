-- The trees of a block, worked out.
use Rattle.std.proofs.Common.{◌≡◌, ℕ, List, [], ◌∷◌, ◌++◌, Option, Some, option_and_then, ap, sym, ◌∙◌}
use Rattle.terms.specs.declared.term.Term.{Term}
use Rattle.terms.specs.Formula.{Formula, Numbers}
use Rattle.term_meaning.specs.Meaning.{Language}
use Rattle.conditions.specs.Numbering.{number}
use Rattle.cert_format.specs.Derivations.{Derivation}
use Rattle.block_layout.specs.Trees.{Grow, tree_over, sorted_tree, AreTrees}
use Rattle.rule_layouts.proofs.Once.{numbered_once}
use Rattle.certificate_upgrade.specs.Conclusions.{or_empty, trees_from, block_trees}
use Rattle.upgrade_laws.proofs.Numbering.{number_is}

trees_are : (tree : List Formula → Term → Option Formula) (first : List Formula) (ts : List Term) (all : List Formula) → Grow tree first ts all → trees_from tree first ts ≡ Some all
trees_are tree first [] all g = ap Some (sym g)
trees_are tree first (t ∷ ts) all (f, e, g) =
    ap (λ (o : Option Formula). option_and_then (λ f. trees_from tree (first ++ f ∷ []) ts) o) e ∙ trees_are tree (first ++ f ∷ []) ts all g

pub block_trees_are : (l : Language) (f : Formula) (block : Derivation) (own : List Term) (root : ℕ) (all : List Formula) → Numbers f [] own root → AreTrees l own block.terms all → block_trees l f block ≡ all
block_trees_are l f block own root all n p =
    let same = numbered_once f (number f []).terms own (number f []).is root (number_is f []) n in
    ap (λ (ts : List Term). or_empty (option_and_then (λ first. trees_from (sorted_tree l) first block.terms) (trees_from tree_over [] ts))) same.0
    ∙ ap (λ (o : Option (List Formula)). or_empty (option_and_then (λ first. trees_from (sorted_tree l) first block.terms) o)) (trees_are tree_over [] own p.first p.own_trees)
    ∙ ap (λ (o : Option (List Formula)). or_empty o) (trees_are (sorted_tree l) p.first block.terms all p.added_trees)
