-- Trees, one after the other.
use Rattle.std.proofs.Common.{◌≡◌, ℕ, zero, suc, ◌+◌, ◌<◌, ◌≤◌, List, [], ◌∷◌, ◌++◌, length, take, All, Option, Some, None, slice_get, option_and_then, if◌then◌else◌, Bool, true, false, refl, ap, sym, ◌∙◌, subst, arith, length-append}
use Rattle.terms.specs.declared.term.Term.{Term}
use Rattle.terms.specs.Formula.{Formula}
use Rattle.term_meaning.specs.Meaning.{Language}
use Rattle.term_graph.specs.Graph.{IsGraph}
use Rattle.block_layout.specs.Trees.{Grow, tree_over, sorted_tree, has_sort}
use Rattle.block_layout.proofs.Lists.{take_next}
use Rattle.block_layout.proofs.Named.{some_tree}

pub grow_more : (tree : List Formula → Term → Option Formula) (first : List Formula) (ts : List Term) (all : List Formula) (t : Term) (f : Formula) → Grow tree first ts all → tree all t ≡ Some f → Grow tree first (ts ++ t ∷ []) (all ++ f ∷ [])
grow_more tree first [] all t f g h = (f, subst (λ (fs : List Formula). tree fs t ≡ Some f) g h, ap (λ fs. fs ++ f ∷ []) g)
grow_more tree first (u ∷ us) all t f (x, p, g) h = (x, p, grow_more tree (first ++ x ∷ []) us all t f g h)

pub grown_long : (tree : List Formula → Term → Option Formula) (first : List Formula) (ts : List Term) (all : List Formula) → Grow tree first ts all → length all ≡ length first + length ts
grown_long tree first [] all g = let e : length all ≡ length first = ap length g in omega (arith, e)
grown_long tree first (t ∷ ts) all (x, p, g) =
    let e : length all ≡ length (first ++ x ∷ []) + length ts = grown_long tree (first ++ x ∷ []) ts all g in
    omega (arith, e, length-append first (x ∷ []))

-- a front with one more
pub grow_next : (tree : List Formula → Term → Option Formula) (first : List Formula) (ts : List Term) (i : ℕ) (all : List Formula) (t : Term) (f : Formula) → slice_get ts i ≡ Some t → Grow tree first (take i ts) all → tree all t ≡ Some f → Grow tree first (take (i + 1) ts) (all ++ f ∷ [])
grow_next tree first ts i all t f at g h = subst (λ (us : List Term). Grow tree first us (all ++ f ∷ [])) (sym (take_next ts i t at)) (grow_more tree first (take i ts) all t f g h)

-- a tree with a sort is the term's
pub tree_sorted : (l : Language) (fs : List Formula) (t : Term) (f : Formula) → tree_over fs t ≡ Some f → has_sort l f ≡ true → sorted_tree l fs t ≡ Some f
tree_sorted l fs t f h s = ap (λ o. option_and_then (λ f. if has_sort l f then Some f else None) o) h ∙ ap (λ b. if b then Some f else None) s

pub tree_unsorted : (l : Language) (fs : List Formula) (t : Term) (f : Formula) → tree_over fs t ≡ Some f → has_sort l f ≡ false → sorted_tree l fs t ≡ None
tree_unsorted l fs t f h s = ap (λ o. option_and_then (λ f. if has_sort l f then Some f else None) o) h ∙ ap (λ b. if b then Some f else None) s

pub tree_none : (l : Language) (fs : List Formula) (t : Term) → tree_over fs t ≡ None → sorted_tree l fs t ≡ None
tree_none l fs t h = ap (λ o. option_and_then (λ f. if has_sort l f then Some f else None) o) h
