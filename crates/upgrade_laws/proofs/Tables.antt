-- The terms of lemmas: a table in which each term has a tree with a sort, and equal trees stand once.
use Rattle.std.proofs.Common.{◌≡◌, ℕ, suc, ◌+◌, ◌<◌, ℤ, true, List, [], ◌∷◌, ◌++◌, map, length, All, Contains, inl, inr, Option, Some, slice_get, option_map, option_and_then, refl, ap, sym, ◌∙◌, subst, arith}
use Rattle.std.proofs.lemmas.Option.{slice_get_within}
use Rattle.std.proofs.lemmas.List.Elements.{All-nil, All-cons}
use Rattle.terms.specs.declared.term.Term.{Term}
use Rattle.terms.specs.declared.term.Kind.{Kind}
use Rattle.terms.specs.declared.sort.Sort.{Sort}
use Rattle.terms.specs.Formula.{Formula, Formulas, Node, Stop, With, term, Interns, Numbers, AllNumbers, Stands, AllStand}
use Rattle.terms.proofs.Numbering.{Extends, stands_more, all_stand_more, all_numbers_stand}
use Rattle.terms.proofs.Lists.{get_last}
use Rattle.term_graph.specs.Graph.{IsGraph}
use Rattle.term_graph.proofs.Graphs.{get_pushed, graph_pushed}
use Rattle.term_graph.proofs.Trees.{only}
use Rattle.term_meaning.specs.Meaning.{Language, sort_in}
use Rattle.term_meaning.specs.Filling.{trees}
use Rattle.condition_formulas.specs.Standing.{StandAll, Each}
use Rattle.term_sorts.specs.Sorting.{AreSortsIn}
use Rattle.block_layout.specs.Trees.{Grow, named, tree_over, sorted_tree, has_sort, is_some}
use Rattle.block_layout.proofs.Lists.{below_gets}
use Rattle.block_layout.proofs.Growing.{grow_more, grown_long, tree_sorted}
use Rattle.rule_layouts.proofs.Blocks.{mapped_at, map_at}
use Rattle.rule_layouts.proofs.Agreeing.{map_length}
use Rattle.axiom_parameters.specs.Laws.{IsSorted}
use Rattle.axiom_parameters.proofs.Sorts.{AreSorted, arguments_sorted}

-- The terms have these trees, each with a sort; each term names lower ones, and none stands twice.
pub record IsTable (l : Language) (terms : List Term) (all : List Formula) : Type 0 where
  pub grow : Grow (sorted_tree l) [] terms all
  pub graph : IsGraph terms
  pub stand : (i : ℕ) (f : Formula) → slice_get all i ≡ Some f → Stands terms i f

pub no_terms : (l : Language) → IsTable l [] []
no_terms l = record {
  grow = refl;
  graph = record { downward = λ i t h. absurd (cc); distinct = λ i j t h g. absurd (cc) };
  stand = λ i f h. absurd (cc);
}

pub table_long : {l : Language} {terms : List Term} {all : List Formula} → IsTable l terms all → length all ≡ length terms
table_long {l} {terms} {all} t = let e = grown_long (sorted_tree l) [] terms all t.grow in omega (arith, e)

-- what stands has a number below the length
pub stands_below : (ts : List Term) (id : ℕ) (f : Formula) → Stands ts id f → id < length ts
stands_below ts id (Node k n fs) (args, at, rest) = slice_get_within ts id (term k n args) at

pub all_below : (ts : List Term) (ids : List ℕ) (fs : Formulas) → AllStand ts ids fs → All (λ a. a < length ts) ids
all_below ts ids Stop h = subst (λ (xs : List ℕ). All (λ a. a < length ts) xs) (sym h) (All-nil (λ a. a < length ts))
all_below ts ids (With f fs) (a, as', e, s, rest) =
    subst (λ (xs : List ℕ). All (λ a. a < length ts) xs) (sym e) (All-cons (λ a. a < length ts) a as' (stands_below ts a f s) (all_below ts as' fs rest))

-- the tree of a number is what stands there
pub tree_at : {l : Language} {terms : List Term} {all : List Formula} (id : ℕ) (f : Formula) → IsTable l terms all → Stands terms id f → slice_get all id ≡ Some f
tree_at {l} {terms} {all} id f t s =
    let below : id < length terms = stands_below terms id f s in
    let (g, at) = below_gets all id (omega (arith, below, table_long t)) in
    at ∙ ap Some (only terms id g f (t.stand id g at) s)

-- numbers and the trees that they name
abbrev pub AreAt : List Formula → List ℕ → List Formula → Type 0
AreAt all [] [] = Unit {0}
AreAt all [] (g ∷ gs) = ⊥
AreAt all (id ∷ ids) [] = ⊥
AreAt all (id ∷ ids) (g ∷ gs) = (slice_get all id ≡ Some g) × AreAt all ids gs

pub trees_at : {l : Language} {terms : List Term} {all : List Formula} (ids : List ℕ) (gs : List Formula) → IsTable l terms all → AllStand terms ids (trees gs) → AreAt all ids gs
trees_at {l} {terms} {all} ids [] t h = subst (λ (xs : List ℕ). AreAt all xs []) (sym h) tt
trees_at {l} {terms} {all} ids (g ∷ gs) t (a, as', e, s, rest) = subst (λ (xs : List ℕ). AreAt all xs (g ∷ gs)) (sym e) (tree_at a g t s, trees_at as' gs t rest)

-- several trees are a list
list_of : (fs : Formulas) → (gs : List Formula) × (trees gs ≡ fs)
list_of Stop = ([], refl)
list_of (With f fs) = let (gs, e) = list_of fs in (f ∷ gs, ap (λ (x : Formulas). With f x) e)

at_named : (all : List Formula) (ids : List ℕ) (gs : List Formula) → AreAt all ids gs → named all ids ≡ Some gs
at_named all [] [] h = refl
at_named all [] (g ∷ gs) h = absurd h
at_named all (id ∷ ids) [] h = absurd h
at_named all (id ∷ ids) (g ∷ gs) h =
    ap (λ (o : Option Formula). option_and_then (λ x. option_map (λ more. x ∷ more) (named all ids)) o) h.0
    ∙ ap (λ (o : Option (List Formula)). option_map (λ more. g ∷ more) o) (at_named all ids gs h.1)

-- ---- one term more

-- the term's tree over the others
term_tree : {l : Language} {terms : List Term} {all : List Formula} (kind : Kind) (n : ℤ) (args : List ℕ) (fs : Formulas) → IsTable l terms all → AllStand terms args fs → tree_over all (term kind n args) ≡ Some (Node kind n fs)
term_tree {l} {terms} {all} kind n args fs t h =
    let (gs, e) = list_of fs in
    let each : AreAt all args gs = trees_at args gs t (subst (λ (x : Formulas). AllStand terms args x) (sym e) h) in
    ap (λ (o : Option (List Formula)). option_map (λ xs. Node kind n (trees xs)) o) (at_named all args gs each) ∙ ap (λ (x : Formulas). Some (Node kind n x)) e

table_more : {l : Language} {terms : List Term} {all : List Formula} (kind : Kind) (n : ℤ) (args : List ℕ) (fs : Formulas) → IsTable l terms all → AllStand terms args fs → IsSorted l (Node kind n fs)
    → (Contains terms (term kind n args) → ⊥) → IsTable l (terms ++ term kind n args ∷ []) (all ++ Node kind n fs ∷ [])
table_more {l} {terms} {all} kind n args fs t h s new =
    let node = term kind n args in
    let f = Node kind n fs in
    let ext : Extends terms (terms ++ node ∷ []) = (node ∷ [], refl) in
    let sorted : has_sort l f ≡ true = ap (λ (o : Option Sort). is_some o) s.1 in
    let last : Stands (terms ++ node ∷ []) (length terms) f = (args, get_last terms node, all_stand_more terms (terms ++ node ∷ []) args fs ext h) in
    record {
      grow = grow_more (sorted_tree l) [] terms all node f t.grow (tree_sorted l all node f (term_tree kind n args fs t h) sorted);
      graph = graph_pushed terms node t.graph (all_below terms args fs h) new;
      stand = λ i g at. elim (get_pushed all f i g at) as (λ _. Stands (terms ++ node ∷ []) i g) [
        | inl p ↦ stands_more terms (terms ++ node ∷ []) i g ext (t.stand i g p)
        | inr p ↦ subst (λ (x : Formula). Stands (terms ++ node ∷ []) i x) (sym p.1) (subst (λ (k : ℕ). Stands (terms ++ node ∷ []) k f) (sym (p.0 ∙ table_long t)) last)
      ];
    }

-- ---- a formula more

-- some trees are those of the terms
abbrev pub IsSomeTable : Language → List Term → Type 0
IsSomeTable l terms = (all : List Formula) × IsTable l terms all

interned_table : (l : Language) (mid new : List Term) (kind : Kind) (n : ℤ) (args : List ℕ) (id : ℕ) (fs : Formulas) → IsSomeTable l mid → AllStand mid args fs → IsSorted l (Node kind n fs) → Interns mid (term kind n args) new id → IsSomeTable l new
interned_table l mid new kind n args id fs t h s (inl i) = subst (λ (ts : List Term). IsSomeTable l ts) (sym i.0) t
interned_table l mid new kind n args id fs (all, t) h s (inr i) = subst (λ (ts : List Term). IsSomeTable l ts) (sym i.1) (all ++ Node kind n fs ∷ [], table_more kind n args fs t h s i.0)

mutual
  pub numbers_table : (l : Language) (f : Formula) (old new : List Term) (id : ℕ) → IsSomeTable l old → IsSorted l f → Numbers f old new id → IsSomeTable l new
  numbers_table l (Node kind n fs) old new id t s (mid, args, all, i) =
      interned_table l mid new kind n args id fs (all_numbers_table l fs old mid args t (arguments_sorted l kind n fs s) all) (all_numbers_stand fs old mid args all).1 s i

  pub all_numbers_table : (l : Language) (fs : Formulas) (old new : List Term) (ids : List ℕ) → IsSomeTable l old → AreSorted l fs → AllNumbers fs old new ids → IsSomeTable l new
  all_numbers_table l Stop old new ids t s h = subst (λ (ts : List Term). IsSomeTable l ts) (sym h.0) t
  all_numbers_table l (With f fs) old new ids t s (mid, a, as', x, y, e) = all_numbers_table l fs mid new as' (numbers_table l f old mid a t s.0 x) s.1 y

-- ---- the table as nodes

-- the numbers from k on, one for each tree
abbrev pub numbers_from : ℕ → List Formula → List ℕ
numbers_from k [] = []
numbers_from k (g ∷ gs) = k ∷ numbers_from (suc k) gs

each_from : (terms : List Term) (k : ℕ) (gs : List Formula) → ((i : ℕ) (f : Formula) → slice_get gs i ≡ Some f → Stands terms (k + i) f) → Each terms (numbers_from k gs) gs
each_from terms k [] h = tt
each_from terms k (g ∷ gs) h =
    let here : k + 0 ≡ k = omega arith in (
      record { tree = subst (λ (n : ℕ). Stands terms n g) here (h 0 g refl) },
      each_from terms (suc k) gs (λ i f at. let next : k + suc i ≡ suc k + i = omega arith in subst (λ (n : ℕ). Stands terms n f) next (h (suc i) f at)),
    )

pub table_names : {l : Language} {terms : List Term} {all : List Formula} → IsTable l terms all → StandAll terms (numbers_from 0 all) all
table_names {l} {terms} {all} t = record { each = each_from terms 0 all (λ i f at. let same : i ≡ 0 + i = omega arith in subst (λ (n : ℕ). Stands terms n f) same (t.stand i f at)) }

pub table_sorts : {l : Language} {terms : List Term} {all : List Formula} → IsTable l terms all → AreSortsIn l terms (map (sort_in l) all)
table_sorts {l} {terms} {all} t = record {
  many = map_length (sort_in l) all ∙ table_long t;
  sort = λ id f s. map_at (sort_in l) all id f (tree_at id f t s.tree);
  first = record {
    each = λ id sort at. let (f, there, is) = mapped_at (sort_in l) all id sort at in record { formula = f; stands = record { tree = t.stand id f there }; is = sym is };
  };
}
