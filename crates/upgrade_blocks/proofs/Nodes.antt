-- The nodes that are a step's trees.
use Rattle.std.proofs.Common.{◌≡◌, ℕ, zero, suc, ◌-◌, nat_eq, ℤ, pos, negsuc, Bool, true, false, if◌then◌else◌, List, [], ◌∷◌, length, Option, Some, None, slice_get, option_map, refl, ap, sym, ◌∙◌, subst, arith, eq-eqb, ne_eqb}
use Rattle.terms.specs.declared.term.Term.{Term}
use Rattle.terms.specs.declared.term.Literal.{Literal}
use Rattle.terms.specs.Formula.{Formula}
use Rattle.term_graph.specs.Graph.{IsGraph}
use Rattle.condition_formulas.specs.Standing.{StandAll, Each, Later}
use Rattle.condition_formulas.proofs.Nodes.{same_nodes}
use Rattle.block_layout.specs.Layout.{IsNode}
use Rattle.certificate_upgrade.specs.Conclusions.{last_tree, clause_tree, both_are}
use Rattle.upgrade_blocks.specs.Nodes.{at_number, at_literal}

-- ---- what numbers name

pub each_node : (ts : List Term) (names : List ℕ) (trees : List Formula) (n : ℕ) → Each ts names trees → IsNode ts (slice_get trees n) (slice_get names n)
each_node ts [] [] n each = refl
each_node ts [] (f ∷ fs) n each = absurd each
each_node ts (id ∷ ids) [] n each = absurd each
each_node ts (id ∷ ids) (f ∷ fs) zero each = (f, refl, each.0)
each_node ts (id ∷ ids) (f ∷ fs) (suc n) each = each_node ts ids fs n each.1

pub named_node : (ts : List Term) (names : List ℕ) (trees : List Formula) (n : ℕ) (o : Option ℕ) → StandAll ts names trees → o ≡ slice_get names n → IsNode ts (slice_get trees n) o
named_node ts names trees n o all e = subst (λ (x : Option ℕ). IsNode ts (slice_get trees n) x) (sym e) (each_node ts names trees n all.each)

number_node : (ts : List Term) (names : List ℕ) (trees : List Formula) (z : ℤ) (o : Option ℕ) → StandAll ts names trees → o ≡ at_number names z → IsNode ts (at_number trees z) o
number_node ts names trees (pos n) o all e = named_node ts names trees n o all e
number_node ts names trees (negsuc n) o all e = subst (λ (x : Option ℕ). IsNode ts None x) (sym e) refl

-- the node is that of an equal formula
node_same : (ts : List Term) (f g : Option Formula) (o : Option ℕ) → f ≡ g → IsNode ts f o → IsNode ts g o
node_same ts f g o e node = subst (λ (x : Option Formula). IsNode ts x o) e node

pub node_later : (old new : List Term) (f : Option Formula) (o : Option ℕ) → Later old new → IsNode old f o → IsNode new f o
node_later old new f None later node = node
node_later old new f (Some id) later (g, is, stands) = (g, is, later id g stands)

-- ---- the last number

last_more : (trees : List Formula) (x m : ℤ) (rest : List ℤ) → last_tree trees (m ∷ rest) ≡ last_tree trees (x ∷ m ∷ rest)
last_more trees (pos k) m rest = refl
last_more trees (negsuc k) m rest = refl

last_alone : (trees : List Formula) (z : ℤ) → at_number trees z ≡ last_tree trees (z ∷ [])
last_alone trees (pos n) = refl
last_alone trees (negsuc n) = refl

some_same : {X : Type 0} (x y : X) → Some x ≡ Some y → x ≡ y
some_same x y h = cc

pub last_is : (ts : List Term) (names : List ℕ) (trees : List Formula) (zs : List ℤ) (i : ℕ) (o : Option ℕ) → StandAll ts names trees → i ≡ length zs - 1 → Some o ≡ option_map (at_number names) (slice_get zs i) → IsNode ts (last_tree trees zs) o
last_is ts names trees [] i o all e at = cc
last_is ts names trees (z ∷ []) zero o all e at =
    node_same ts (at_number trees z) (last_tree trees (z ∷ [])) o (last_alone trees z) (number_node ts names trees z o all (some_same o (at_number names z) at))
last_is ts names trees (z ∷ []) (suc i) o all e at = absurd (omega (arith, e))
last_is ts names trees (z ∷ y ∷ zs) zero o all e at = absurd (omega (arith, e))
last_is ts names trees (z ∷ y ∷ zs) (suc i) o all e at =
    node_same ts (last_tree trees (y ∷ zs)) (last_tree trees (z ∷ y ∷ zs)) o (last_more trees z y zs) (last_is ts names trees (y ∷ zs) i o all (omega (arith, e)) at)

pub no_last : (ts : List Term) (trees : List Formula) (zs : List ℤ) → length zs ≡ 0 → IsNode ts (last_tree trees zs) None
no_last ts trees [] e = refl
no_last ts trees (z ∷ zs) e = absurd (omega (arith, e))

-- ---- a clause

pub literal_is : (ts : List Term) (names : List ℕ) (trees : List Formula) (x : Literal) (o : Option ℕ) → StandAll ts names trees → o ≡ at_literal names x → IsNode ts (at_literal trees x) o
literal_is ts names trees x o all e = by_sign x.positive refl
  where
    by_sign : (b : Bool) → x.positive ≡ b → IsNode ts (at_literal trees x) o
    by_sign true q =
        node_same ts (slice_get trees x.term) (at_literal trees x) o (ap (λ c. if c then slice_get trees x.term else None) (sym q))
        (named_node ts names trees x.term o all (e ∙ ap (λ c. if c then slice_get names x.term else None) q))
    by_sign false q =
        node_same ts None (at_literal trees x) o (ap (λ c. if c then slice_get trees x.term else None) (sym q))
        (subst (λ (y : Option ℕ). IsNode ts None y) (sym (e ∙ ap (λ c. if c then slice_get names x.term else None) q)) refl)

pub clause_is : (ts : List Term) (trees : List Formula) (clause : List Literal) (x : Literal) (o : Option ℕ) → length clause ≡ 1 → slice_get clause 0 ≡ Some x → IsNode ts (at_literal trees x) o → IsNode ts (clause_tree trees clause) o
clause_is ts trees [] x o long at node = absurd (omega (arith, long))
clause_is ts trees (y ∷ []) x o long at node = node_same ts (at_literal trees x) (at_literal trees y) o (ap (at_literal trees) (sym (some_same y x at))) node
clause_is ts trees (y ∷ z ∷ zs) x o long at node = absurd (omega (arith, long))

pub no_clause : (ts : List Term) (trees : List Formula) (clause : List Literal) → (length clause ≡ 1 → ⊥) → IsNode ts (clause_tree trees clause) None
no_clause ts trees [] long = refl
no_clause ts trees (y ∷ []) long = absurd (long refl)
no_clause ts trees (y ∷ z ∷ zs) long = refl

-- ---- what two nodes both are

pub none_left : (ts : List Term) (f g : Option Formula) (a : Option ℕ) → a ≡ None → IsNode ts f a → IsNode ts (both_are f g) None
none_left ts f g a e left = ap (λ (x : Option Formula). both_are x g) (subst (λ (x : Option ℕ). IsNode ts f x) e left)

none_behind : (f : Option Formula) → both_are f None ≡ None
none_behind None = refl
none_behind (Some f) = refl

pub none_right : (ts : List Term) (f g : Option Formula) (b : Option ℕ) → b ≡ None → IsNode ts g b → IsNode ts (both_are f g) None
none_right ts f g b e right = ap (both_are f) (subst (λ (x : Option ℕ). IsNode ts g x) e right) ∙ none_behind f

-- both are, exactly where the nodes are one
both_by : (ts : List Term) (f g : Option Formula) (a b : ℕ) → IsGraph ts → (left : IsNode ts f (Some a)) → IsNode ts g (Some b) → both_are f g ≡ (if nat_eq a b then Some left.0 else None)
both_by ts f g a b graph (x, p, s) (y, q, t) = ap (λ (z : Option Formula). both_are z g) p ∙ ap (both_are (Some x)) q ∙ ap (λ (c : Bool). if c then Some x else None) (sym (same_nodes graph s t))

pub both_same : (ts : List Term) (f g : Option Formula) (l r : Option ℕ) (a b : ℕ) → IsGraph ts → l ≡ Some a → r ≡ Some b → a ≡ b → IsNode ts f l → IsNode ts g r → IsNode ts (both_are f g) (Some a)
both_same ts f g l r a b graph is also e left right =
    let here = subst (λ (x : Option ℕ). IsNode ts f x) is left in
    let there = subst (λ (x : Option ℕ). IsNode ts g x) also right in
    (here.0, both_by ts f g a b graph here there ∙ ap (λ (c : Bool). if c then Some here.0 else None) (eq-eqb a b e), here.2)

pub both_differ : (ts : List Term) (f g : Option Formula) (l r : Option ℕ) (a b : ℕ) → IsGraph ts → l ≡ Some a → r ≡ Some b → (a ≡ b → ⊥) → IsNode ts f l → IsNode ts g r → IsNode ts (both_are f g) None
both_differ ts f g l r a b graph is also e left right =
    let here = subst (λ (x : Option ℕ). IsNode ts f x) is left in
    let there = subst (λ (x : Option ℕ). IsNode ts g x) also right in
    both_by ts f g a b graph here there ∙ ap (λ (c : Bool). if c then Some here.0 else None) (ne_eqb a b e)
