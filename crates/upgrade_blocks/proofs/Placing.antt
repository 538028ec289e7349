-- What stands behind a term more of a block.
use Rattle.std.proofs.Common.{◌≡◌, ◌↔◌, IsTrue, ℕ, ◌+◌, ◌<◌, ◌≤◌, Bool, true, false, true≢false, List, [], ◌∷◌, ◌++◌, map, length, drop, All, Option, Some, None, slice_get, option_and_then, refl, ap, sym, ◌∙◌, subst}
use Rattle.terms.specs.declared.term.Term.{Term}
use Rattle.terms.specs.Formula.{Formula, Formulas, Node, Stands, AllStand}
use Rattle.term_meaning.specs.Meaning.{Language}
use Rattle.condition_formulas.specs.Standing.{StandAll, Later}
use Rattle.condition_formulas.proofs.Rows.{all_later, then_one, as_long, none, same_ids}
use Rattle.block_layout.specs.Trees.{tree_over, sorted_tree}
use Rattle.block_layout.specs.Layout.{IsNode, node_of}
use Rattle.block_layout.proofs.Named.{put_stands, no_tree, some_tree}
use Rattle.certificate_upgrade.specs.Conclusions.{or_empty, trees_from}
use Rattle.upgrade_blocks.specs.Trees.{PutsAll, own_then}
use Rattle.upgrade_blocks.proofs.Numbers.{drop_at, drop_end}

-- ---- one term

to_trees : (ts : List Term) (names : List ℕ) (trees : List Formula) (args args' : List ℕ) (count : ℕ) → args ≡ args' → count ≡ length names → StandAll ts names trees → All (λ a. a < count) args → All (λ a. a < length trees) args'
to_trees ts names trees args args' count e long all h = subst (λ (n : ℕ). All (λ a. a < n) args') (long ∙ as_long all) (subst (λ (xs : List ℕ). All (λ a. a < count) xs) e h)

from_trees : (ts : List Term) (names : List ℕ) (trees : List Formula) (args args' : List ℕ) (count : ℕ) → args ≡ args' → count ≡ length names → StandAll ts names trees → All (λ a. a < length trees) args' → All (λ a. a < count) args
from_trees ts names trees args args' count e long all h = subst (λ (n : ℕ). All (λ a. a < n) args) (sym (long ∙ as_long all)) (subst (λ (xs : List ℕ). All (λ a. a < length trees) xs) (sym e) h)

-- a term that names none of those before it
pub term_bad : (ts : List Term) (names : List ℕ) (trees : List Formula) (t : Term) (args : List ℕ) (count : ℕ) (b : Bool) → args ≡ t.args → count ≡ length names → (IsTrue b ↔ All (λ a. a < count) args) → b ≡ false → StandAll ts names trees → tree_over trees t ≡ None
term_bad ts names trees t args count b e long test fails all =
    no_tree trees t (λ h. true≢false (sym (test.1 (from_trees ts names trees args t.args count e long all h)) ∙ fails))

pub term_good : (old new : List Term) (names : List ℕ) (trees : List Formula) (t : Term) (args ids : List ℕ) (count : ℕ) (b : Bool) (id : ℕ) → args ≡ t.args → count ≡ length names → (IsTrue b ↔ All (λ a. a < count) args) → b ≡ true → ids ≡ map (node_of names) args
    → ((gs : Formulas) → AllStand old ids gs → Stands new id (Node t.kind t.index gs)) → StandAll old names trees → IsNode new (tree_over trees t) (Some id)
term_good old new names trees t args ids count b id e long test holds same made all =
    let (f, is) = some_tree trees t (to_trees old names trees args t.args count e long all (test.0 holds)) in
    (f, is, put_stands old new names trees t f ids id (same ∙ ap (map (node_of names)) e) made all is)

-- ---- several terms

-- these trees stand at the names, and the terms behind have theirs behind them
pub record Front (tree : List Formula → Term → Option Formula) (first : List Formula) (terms : List Term) (i : ℕ) (ts : List Term) (names : List ℕ) : Type 0 where
  pub trees : List Formula
  pub shown : StandAll ts names trees
  pub rest : trees_from tree trees (drop i terms) ≡ trees_from tree first terms

pub front_first : (tree : List Formula → Term → Option Formula) (first : List Formula) (terms ts : List Term) (names : List ℕ) → StandAll ts names first → Front tree first terms 0 ts names
front_first tree first terms ts names all = record { trees = first; shown = all; rest = refl }

-- what the next term's node is
abbrev pub Puts : (List Formula → Term → Option Formula) → Term → List Term → List Term → List ℕ → Option ℕ → Type 0
Puts tree t old new names o = (fs : List Formula) → StandAll old names fs → IsNode new (tree fs t) o

pub puts_by : (tree : List Formula → Term → Option Formula) (t : Term) (old new : List Term) (seen names : List ℕ) (o p : Option ℕ) → seen ≡ names → o ≡ p → Puts tree t old new seen o → Puts tree t old new names p
puts_by tree t old new seen names o p e is puts = λ fs all. subst (λ (x : Option ℕ). IsNode new (tree fs t) x) is (puts fs (same_ids e all))

from_next : (tree : List Formula → Term → Option Formula) (fs : List Formula) (terms : List Term) (i : ℕ) (t : Term) (o : Option Formula) → slice_get terms i ≡ Some t → tree fs t ≡ o → trees_from tree fs (drop i terms) ≡ option_and_then (λ f. trees_from tree (fs ++ f ∷ []) (drop (i + 1) terms)) o
from_next tree fs terms i t o at e =
    ap (trees_from tree fs) (drop_at terms i t at) ∙ ap (λ (x : Option Formula). option_and_then (λ f. trees_from tree (fs ++ f ∷ []) (drop (i + 1) terms)) x) e

pub front_next : (tree : List Formula → Term → Option Formula) (first : List Formula) (terms : List Term) (i : ℕ) (t : Term) (old new : List Term) (names more : List ℕ) (id : ℕ) → slice_get terms i ≡ Some t → Later old new → Puts tree t old new names (Some id) → more ≡ names ++ id ∷ []
    → Front tree first terms i old names → Front tree first terms (i + 1) new more
front_next tree first terms i t old new names more id at later puts e k =
    let (f, is, stands) = puts k.trees k.shown in
    record {
      trees = k.trees ++ f ∷ [];
      shown = same_ids e (then_one (all_later later k.shown) stands);
      rest = sym (from_next tree k.trees terms i t (Some f) at is) ∙ k.rest;
    }

pub front_stop : (tree : List Formula → Term → Option Formula) (first : List Formula) (terms : List Term) (i : ℕ) (t : Term) (old new : List Term) (names : List ℕ) → slice_get terms i ≡ Some t → Puts tree t old new names None → Front tree first terms i old names → trees_from tree first terms ≡ None
front_stop tree first terms i t old new names at puts k = sym k.rest ∙ from_next tree k.trees terms i t None at (puts k.trees k.shown)

pub front_end : (tree : List Formula → Term → Option Formula) (first : List Formula) (terms : List Term) (i : ℕ) (ts : List Term) (names : List ℕ) → length terms ≤ i → Front tree first terms i ts names → PutsAll ts names (trees_from tree first terms) true
front_end tree first terms i ts names h k = (k.trees, sym k.rest ∙ ap (trees_from tree k.trees) (drop_end terms i h), k.shown)

-- ---- a block

-- these terms have no trees, and so neither have all
pub none_put : (l : Language) (own added mid : List Term) (before : List ℕ) (b : Bool) → b ≡ false → PutsAll mid before (trees_from tree_over [] own) b → own_then l own added ≡ None
none_put l own added mid before b e put =
    ap (λ (o : Option (List Formula)). option_and_then (λ first. trees_from (sorted_tree l) first added) o) (subst (λ (c : Bool). PutsAll mid before (trees_from tree_over [] own) c) e put)

pub added_put : (l : Language) (own added mid new : List Term) (before names : List ℕ) (a b : Bool) → a ≡ true → PutsAll mid before (trees_from tree_over [] own) a
    → ((first : List Formula) → StandAll mid before first → PutsAll new names (trees_from (sorted_tree l) first added) b) → PutsAll new names (own_then l own added) b
added_put l own added mid new before names a b e put puts =
    let (first, is, shown) = subst (λ (c : Bool). PutsAll mid before (trees_from tree_over [] own) c) e put in
    subst (λ (o : Option (List Formula)). PutsAll new names (option_and_then (λ first. trees_from (sorted_tree l) first added) o) b) (sym is) (puts first shown)

pub nothing_named : (ts : List Term) (names found : List ℕ) (o : Option (List Formula)) (b : Bool) → b ≡ false → found ≡ [] → PutsAll ts names o b → StandAll ts found (or_empty o)
nothing_named ts names found o b e empty put =
    let nothing : o ≡ None = subst (λ (c : Bool). PutsAll ts names o c) e put in
    same_ids empty (subst (λ (x : Option (List Formula)). StandAll ts [] (or_empty x)) (sym nothing) none)

pub all_named : (ts : List Term) (names : List ℕ) (o : Option (List Formula)) (b : Bool) → b ≡ true → PutsAll ts names o b → StandAll ts names (or_empty o)
all_named ts names o b e put =
    let (fs, is, stand) = subst (λ (c : Bool). PutsAll ts names o c) e put in
    subst (λ (x : Option (List Formula)). StandAll ts names (or_empty x)) (sym is) stand
