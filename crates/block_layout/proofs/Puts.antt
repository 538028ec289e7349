-- What stands behind a term or a step more.
use Rattle.std.proofs.Common.{◌≡◌, ◌⊎◌, inl, inr, ℕ, zero, suc, ◌+◌, ◌<◌, ◌≤◌, List, [], ◌∷◌, ◌++◌, map, length, take, All, Option, Some, None, slice_get, Bool, true, false, refl, ap, sym, ◌∙◌, subst, arith, length-append}
use Rattle.std.proofs.lemmas.Option.{slice_get_within}
use Rattle.std.proofs.lemmas.List.Elements.{All-weaker}
use Rattle.terms.specs.declared.term.Term.{Term}
use Rattle.terms.specs.declared.term.Literal.{Literal}
use Rattle.terms.specs.Formula.{Formula}
use Rattle.term_graph.specs.Graph.{IsGraph}
use Rattle.term_meaning.specs.Meaning.{Language}
use Rattle.condition_formulas.specs.Standing.{StandsAs, StandAll, Later}
use Rattle.condition_formulas.proofs.Rows.{all_later, then_one, as_long, none}
use Rattle.term_language.specs.declared.language.Language.{Language as Code}
use Rattle.term_language.specs.Languages.{IsLanguage}
use Rattle.cert_format.specs.declared.certificate.Step.{Step}
use Rattle.block_layout.specs.declared.space.Space.{Space}
use Rattle.block_layout.specs.declared.space.Theory.{Theory}
use Rattle.block_layout.specs.declared.loaded.LoadedStep.{LoadedStep}
use Rattle.block_layout.specs.declared.loaded.Stop.TheVariants as stop
use Rattle.block_layout.specs.Space.{Keeps, StaysSorted, Sorts, IsSorted, IsTheory}
use Rattle.block_layout.specs.Trees.{Grow, tree_over, sorted_tree, has_sort, AreTrees, IsFirstBad}
use Rattle.block_layout.specs.Layout.{IsLaid, IsNode, NamesTerms, clause_in, instance_in, numbers_over}
use Rattle.block_layout.specs.Loading.{Shown, AddedFront, PutsAdded, AddedTo, IsBadBehind, IsWithinLimit, IsPastLimit, StepsFront, StepsLaid, IsUnnamed}
use Rattle.block_layout.proofs.Lists.{take_long, take_all, take_next, get_more, get_take, take_get, map_more}
use Rattle.block_layout.proofs.Named.{some_tree, no_tree}
use Rattle.block_layout.proofs.Growing.{grow_next, grown_long, tree_sorted, tree_unsorted, tree_none}

-- where one puts a term: whatever trees stand at the names, the term's tree stands at its node
abbrev pub Puts : Space → List ℕ → Term → Space → ℕ → Type 0
Puts old names t new id = (trees : List Formula) (f : Formula) → StandAll old.graph names trees → tree_over trees t ≡ Some f → StandsAs new.graph id f

pub puts_by : (old new : Space) (seen names : List ℕ) (t : Term) (id : ℕ) → seen ≡ names → Puts old seen t new id → Puts old names t new id
puts_by old new seen names t id e puts = subst (λ (ns : List ℕ). Puts old ns t new id) e puts

-- ---- the condition's own terms

pub own_first : (own : List Term) (space : Space) (names : List ℕ) → names ≡ [] → IsWithinLimit space → Shown tree_over [] (take 0 own) space names
own_first own space names e few = record { trees = []; grown = refl; shown = subst (λ (ns : List ℕ). StandAll space.graph ns []) (sym e) none; few = few }

pub own_next : (code : Code) (own : List Term) (i : ℕ) (t : Term) (old new : Space) (names : List ℕ) (id : ℕ) → IsGraph own → slice_get own i ≡ Some t → Keeps code old new → Puts old names t new id → IsWithinLimit new
    → Shown tree_over [] (take i own) old names → Shown tree_over [] (take (i + 1) own) new (names ++ id ∷ [])
own_next code own i t old new names id g at kept puts few k =
    let below : i < length own = slice_get_within own i t at in
    let many : length k.trees ≡ i = grown_long tree_over [] (take i own) k.trees k.grown ∙ (let e : 0 + length (take i own) ≡ length (take i own) = omega arith in e) ∙ take_long own i (omega (arith, below)) in
    let (f, is) = some_tree k.trees t (subst (λ n. All (λ a. a < n) t.args) (sym many) (g.downward i t at)) in
    record {
      trees = k.trees ++ f ∷ [];
      grown = grow_next tree_over [] own i k.trees t f at k.grown is;
      shown = then_one (all_later kept.later k.shown) (puts k.trees f k.shown is);
      few = few;
    }

pub own_last : (own : List Term) (i : ℕ) (space : Space) (names : List ℕ) → length own ≤ i → Shown tree_over [] (take i own) space names → Shown tree_over [] own space names
own_last own i space names h k = subst (λ (ts : List Term). Shown tree_over [] ts space names) (take_all own i h) k

-- ---- added terms

pub added_first : (code : Code) (added : List Term) (space : Space) (names : List ℕ) → IsWithinLimit space → AddedFront code added 0 space names space names
added_first code added space names few = record { each = λ l first is s all. record { trees = first; grown = refl; shown = all; few = few } }

pub added_next : (code : Code) (added : List Term) (k : ℕ) (t : Term) (first old new : Space) (before names : List ℕ) (id : ℕ) → slice_get added k ≡ Some t → All (λ a. a < length names) t.args → StaysSorted code first new → Keeps code old new → Puts old names t new id
    → ((l : Language) (f : Formula) → IsSorted l new → StandsAs new.graph id f → true ≡ has_sort l f) → IsWithinLimit new
    → AddedFront code added k first before old names → AddedFront code added (k + 1) first before new (names ++ id ∷ [])
added_next code added k t first old new before names id at below sorted kept puts has few front = record {
  each = λ l trees is s all.
      let shown = front.each l trees is s all in
      let (f, e) = some_tree shown.trees t (subst (λ n. All (λ a. a < n) t.args) (as_long shown.shown) below) in
      let stands = puts shown.trees f shown.shown e in
      let good = tree_sorted l shown.trees t f e (sym (has l f (sorted.sorted l is s) stands)) in
      record {
        trees = shown.trees ++ f ∷ [];
        grown = grow_next (sorted_tree l) trees added k shown.trees t f at shown.grown good;
        shown = then_one (all_later kept.later shown.shown) stands;
        few = few;
      };
}

-- a number that isn't below the term's own
pub bad_number : (code : Code) (added : List Term) (k : ℕ) (t : Term) (first old new : Space) (before names more : List ℕ) → slice_get added k ≡ Some t → (All (λ a. a < length names) t.args → ⊥)
    → AddedFront code added k first before old names → PutsAdded code added first before new more (Some (stop.BadTerm k))
bad_number code added k t first old new before names more at above front = record {
  each = λ l trees is s all.
      let shown = front.each l trees is s all in
      record {
        before = shown.trees;
        good = shown.grown;
        bad = t;
        at = at;
        no_tree = tree_none l shown.trees t (no_tree shown.trees t (λ h. above (subst (λ n. All (λ a. a < n) t.args) (sym (as_long shown.shown)) h)));
      };
}

-- no sort
pub bad_sort : (code : Code) (added : List Term) (k : ℕ) (t : Term) (first old new : Space) (before names more : List ℕ) (id : ℕ) → slice_get added k ≡ Some t → All (λ a. a < length names) t.args → StaysSorted code first new → Puts old names t new id
    → ((l : Language) (f : Formula) → IsSorted l new → StandsAs new.graph id f → false ≡ has_sort l f)
    → AddedFront code added k first before old names → PutsAdded code added first before new more (Some (stop.BadTerm k))
bad_sort code added k t first old new before names more id at below sorted puts has front = record {
  each = λ l trees is s all.
      let shown = front.each l trees is s all in
      let (f, e) = some_tree shown.trees t (subst (λ n. All (λ a. a < n) t.args) (as_long shown.shown) below) in
      record {
        before = shown.trees;
        good = shown.grown;
        bad = t;
        at = at;
        no_tree = tree_unsorted l shown.trees t f e (sym (has l f (sorted.sorted l is s) (puts shown.trees f shown.shown e)));
      };
}

pub at_limit : (code : Code) (added : List Term) (first new : Space) (before more : List ℕ) → IsPastLimit new → PutsAdded code added first before new more (Some stop.Limit)
at_limit code added first new before more past = record { each = λ l trees is s all. past }

pub all_added : (code : Code) (added : List Term) (k : ℕ) (first new : Space) (before more : List ℕ) → length added ≤ k → AddedFront code added k first before new more → PutsAdded code added first before new more None
all_added code added k first new before more h front = record {
  each = λ l trees is s all. subst (λ (ts : List Term). Shown (sorted_tree l) trees ts new more) (take_all added k h) (front.each l trees is s all);
}
