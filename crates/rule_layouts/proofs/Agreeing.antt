-- Layouts of one block agree on the steps that both have.
use Rattle.std.proofs.Common.{◌≡◌, ℕ, zero, suc, ◌<◌, ◌≤◌, List, [], ◌∷◌, ◌++◌, map, take, length, Option, Some, slice_get, refl, ap, sym, ◌∙◌, subst, arith}
use Rattle.terms.specs.declared.term.Term.{Term}
use Rattle.terms.specs.Formula.{Formula}
use Rattle.term_meaning.specs.Meaning.{Language}
use Rattle.cert_format.specs.declared.certificate.Step.{Step}
use Rattle.block_layout.specs.Trees.{Grow, tree_over, sorted_tree, AreTrees}
use Rattle.block_layout.specs.Layout.{Laid, IsLayout, clause_in}
use Rattle.refutation_check.specs.Theorems.{Theorems}
use Rattle.refutation_check.specs.Rows.{IsGivenAt}
use Rattle.rule_layouts.specs.Laws.{LayoutsAgree}
use Rattle.rule_layouts.proofs.Trees.{some_is}
use Rattle.rule_layouts.proofs.Blocks.{given_same}

-- terms have one list of trees
pub grown_same : (tree : List Formula → Term → Option Formula) (first : List Formula) (ts : List Term) (all others : List Formula) → Grow tree first ts all → Grow tree first ts others → all ≡ others
grown_same tree first [] all others h k = h ∙ sym k
grown_same tree first (t ∷ ts) all others (f, e, g) (f', e', g') =
    let same : f' ≡ f = some_is f' f (sym e' ∙ e) in
    grown_same tree (first ++ f ∷ []) ts all others g (subst (λ (x : Formula). Grow tree (first ++ x ∷ []) ts others) same g')

pub trees_same : (l : Language) (own added : List Term) (all others : List Formula) → AreTrees l own added all → AreTrees l own added others → all ≡ others
trees_same l own added all others p q =
    let same : q.first ≡ p.first = grown_same tree_over [] own q.first p.first q.own_trees p.own_trees in
    grown_same (sorted_tree l) p.first added all others p.added_trees (subst (λ (x : List Formula). Grow (sorted_tree l) x added others) same q.added_trees)

-- what stands in a list's front
get_front : {X : Type 0} (n : ℕ) (xs : List X) (i : ℕ) (x : X) → slice_get (take n xs) i ≡ Some x → slice_get xs i ≡ Some x
get_front zero xs i x h = absurd (cc)
get_front (suc n) [] i x h = absurd (cc)
get_front (suc n) (y ∷ xs) zero x h = h
get_front (suc n) (y ∷ xs) (suc i) x h = get_front n xs i x h

in_front : {X : Type 0} (n : ℕ) (xs : List X) (i : ℕ) (x : X) → i < length (take n xs) → slice_get xs i ≡ Some x → slice_get (take n xs) i ≡ Some x
in_front zero xs i x l h = absurd (omega (arith, l))
in_front (suc n) [] i x l h = absurd (omega (arith, l))
in_front (suc n) (y ∷ xs) zero x l h = h
in_front (suc n) (y ∷ xs) (suc i) x l h = in_front n xs i x (omega (arith, l)) h

pub map_length : {X Y : Type 0} (f : X → Y) (xs : List X) → length (map f xs) ≡ length xs
map_length f [] = refl
map_length f (x ∷ xs) = ap suc (map_length f xs)

laid_same :
    (l : Language) (theorems : Theorems) (root : Option ℕ) (steps : List Step) (count many : ℕ) (one other : Laid) (trees : List Formula)
    → IsLayout l trees root (take count steps) one → IsLayout l trees root (take many steps) other → length one.nodes ≤ 1_048_576
    → (i : ℕ) → i < length other.clauses → IsGivenAt theorems one i → IsGivenAt theorems other i
laid_same l theorems root steps count many one other trees p q few i h g =
    let long : length other.clauses ≡ length (take many steps) = ap length q.clauses ∙ map_length (clause_in q.names) (take many steps) in
    given_same l theorems trees root (take count steps) (take many steps) one other p q few i
    (λ k s below there. in_front many steps k s (omega (arith, below, h, long)) (get_front count steps k s there)) g

pub layouts_agree : LayoutsAgree
layouts_agree l theorems own root block count many one other p q few i h g =
    laid_same l theorems root block.steps count many one other p.trees p.layout
    (subst (λ (x : List Formula). IsLayout l x root (take many block.steps) other) (trees_same l own block.terms q.trees p.trees q.good p.good) q.layout)
    few i h g
