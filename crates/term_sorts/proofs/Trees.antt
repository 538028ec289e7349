-- Sorts of nodes are those of their trees.
use Rattle.std.specs.Prelude.{◌≡◌, ◌<◌, ◌≤◌, ◌+◌, ℕ, zero, suc, List, [], ◌∷◌, ◌++◌, length, take, All, Option, Some, None, slice_get, option_and_then}
use Rattle.std.proofs.Common.{refl, sym, ap, ◌∙◌, subst, arith}
use Rattle.std.proofs.lemmas.Option.{slice_get-get_or}
use Rattle.std.proofs.lemmas.List.Elements.{All-head, All-tail}
use Rattle.terms.specs.declared.term.Term.{Term}
use Rattle.terms.specs.declared.term.Kind.{Kind}
use Rattle.terms.specs.declared.sort.Sort.{Sort}
use Rattle.terms.specs.declared.sort.Column.{Column}
use Rattle.terms.specs.declared.sort.Columns.{Columns}
use Rattle.terms.specs.Formula.{Formula, Formulas, Node, Stop, With, Stands, AllStand, term}
use Rattle.terms.specs.Sorts as s
use Rattle.term_meaning.specs.Columns.{column_sorts}
use Rattle.term_meaning.specs.Meaning.{Language, quantified_sorts, sort_in, sorts_in}
use Rattle.term_graph.specs.Graph.{IsGraph}
use Rattle.term_graph.proofs.Graphs.{get_kept, get_taken}
use Rattle.condition_formulas.proofs.Nodes.{one_tree}
use Rattle.condition_formulas.proofs.Walks.{stands_within}
use Rattle.term_sorts.specs.Sorting.{HasColumns, HasSort, HaveSorts, AreSortsIn, sort_at, sorts_at, sort_of_node}

-- a number within the table has its sort
at_number : {l : Language} {ts : List Term} {sorts : List (Option Sort)} → HaveSorts l ts sorts → (id : ℕ) → id < length sorts → HasSort l ts id (sort_at sorts id)
at_number {sorts = sorts} h id below = h.each id (sort_at sorts id) (slice_get-get_or sorts id None below)

-- arguments as trees, with the sorts of these
record Trees (l : Language) (ts : List Term) (sorts : List (Option Sort)) (ids : List ℕ) : Type 0 where
  trees : Formulas
  stand : AllStand ts ids trees
  are : sorts_at sorts ids ≡ sorts_in l trees

trees_of : (l : Language) (ts : List Term) (sorts : List (Option Sort)) → HaveSorts l ts sorts → (ids : List ℕ) → All (λ a. a < length sorts) ids → Trees l ts sorts ids
trees_of l ts sorts h [] below = record { trees = Stop; stand = refl; are = refl }
trees_of l ts sorts h (id ∷ ids) below =
    let one = at_number h id (All-head (λ a. a < length sorts) id ids below) in
    let rest = trees_of l ts sorts h ids (All-tail (λ a. a < length sorts) id ids below) in
    record {
      trees = With one.formula rest.trees;
      stand = (id, ids, refl, one.stands.tree, rest.stand);
      are = ap (λ (o : Option Sort). option_and_then (λ a. option_and_then (λ as'. Some (a ∷ as')) (sorts_at sorts ids)) o) one.is
          ∙ ap (λ (o : Option (List Sort)). option_and_then (λ a. option_and_then (λ as'. Some (a ∷ as')) o) (sort_in l one.formula)) rest.are;
    }

by_columns : (l : Language) (c : Columns) → HasColumns c l → (kind : Kind) (args : List Sort) (t : Term) → s.sort_of kind t.index args c ≡ s.sort_in kind t.index args (column_sorts l.program) (quantified_sorts l)
by_columns l c h kind args t = ap (λ (cs : List Column). s.sort_in kind t.index args cs c.quantified.items) h.columns ∙ ap (λ (qs : List (List Sort)). s.sort_in kind t.index args (column_sorts l.program) qs) h.holes

by_each : (c : Columns) (l : Language) → HasColumns c l → (t : Term) (args : Option (List Sort)) → option_and_then (λ as'. s.sort_of t.kind t.index as' c) args ≡ option_and_then (λ as'. s.sort_in t.kind t.index as' (column_sorts l.program) (quantified_sorts l)) args
by_each c l h t None = refl
by_each c l h t (Some args) = by_columns l c h t.kind args t

-- the next node's sort
pub next_sort : {l : Language} {ts : List Term} {sorts : List (Option Sort)} {c : Columns} {t : Term} (id : ℕ) → HasColumns c l → HaveSorts l ts sorts → slice_get ts id ≡ Some t → All (λ a. a < length sorts) t.args → HasSort l ts id (sort_of_node sorts t c)
next_sort {l} {ts} {sorts} {c} {t} id columns h here below =
    let args = trees_of l ts sorts h t.args below in
    record {
      formula = Node t.kind t.index args.trees;
      stands = record { tree = (t.args, here, args.stand) };
      is = by_each c l columns t (sorts_at sorts t.args) ∙ ap (option_and_then (λ as'. s.sort_in t.kind t.index as' (column_sorts l.program) (quantified_sorts l))) args.are;
    }

-- one sort more
behind : (l : Language) (ts : List Term) (start : ℕ) (sorts : List (Option Sort)) (x : Option Sort) → ((id : ℕ) (y : Option Sort) → slice_get sorts id ≡ Some y → HasSort l ts (start + id) y) → HasSort l ts (start + length sorts) x → (id : ℕ) (y : Option Sort) → slice_get (sorts ++ x ∷ []) id ≡ Some y → HasSort l ts (start + id) y
behind l ts start [] x each one zero y e = subst (λ (z : Option Sort). HasSort l ts (start + 0) z) (same e) one
  where
    same : Some x ≡ Some y → x ≡ y
    same e = cc
behind l ts start [] x each one (suc id) y e = absurd (cc)
behind l ts start (z ∷ sorts) x each one zero y e = each 0 y e
behind l ts start (z ∷ sorts) x each one (suc id) y e = subst (λ (n : ℕ). HasSort l ts n y) (next id) (behind l ts (start + 1) sorts x (λ i w e'. subst (λ (n : ℕ). HasSort l ts n w) (sym (next i)) (each (suc i) w e')) (subst (λ (n : ℕ). HasSort l ts n x) (sym (next (length sorts))) one) id y e)
  where
    next : (i : ℕ) → (start + 1) + i ≡ start + suc i
    next i = omega arith

pub one_more : {l : Language} {ts : List Term} {sorts more : List (Option Sort)} {sort : Option Sort} → HaveSorts l ts sorts → HasSort l ts (length sorts) sort → more ≡ sorts ++ sort ∷ [] → HaveSorts l ts more
one_more {l} {ts} {sorts} {more} {sort} h one e = subst (λ (ss : List (Option Sort)). HaveSorts l ts ss) (sym e) (record {
  each = λ id y here. subst (λ (n : ℕ). HasSort l ts n y) (from_none id) (behind l ts 0 sorts sort (λ i w e'. subst (λ (n : ℕ). HasSort l ts n w) (sym (from_none i)) (h.each i w e')) (subst (λ (n : ℕ). HasSort l ts n sort) (sym (from_none (length sorts))) one) id y here);
})
  where
    from_none : (i : ℕ) → 0 + i ≡ i
    from_none i = omega arith

-- there are no more sorts than nodes
pub no_more : {l : Language} {ts : List Term} {sorts : List (Option Sort)} → HaveSorts l ts sorts → length sorts ≤ length ts
no_more {l} {ts} {sorts} h = by_last (length sorts) (λ id below. stands_within (at_number h id below).stands)
  where
    by_last : (n : ℕ) → ((id : ℕ) → id < n → id < length ts) → n ≤ length ts
    by_last zero within = omega arith
    by_last (suc n) within = let last : n < length ts = within n (omega arith) in omega arith

-- the table is full
pub all_sorts : {l : Language} {ts : List Term} {sorts : List (Option Sort)} → HaveSorts l ts sorts → length ts ≤ length sorts → AreSortsIn l ts sorts
all_sorts {l} {ts} {sorts} h full =
    let few = no_more h in
    record {
      many = omega arith;
      first = h;
      sort = λ id f stands.
          let within : id < length ts = stands_within stands in
          let below : id < length sorts = omega arith in
          let one = at_number h id below in
          slice_get-get_or sorts id None below ∙ ap Some (one.is ∙ ap (sort_in l) (one_tree ts id one.formula f one.stands.tree stands.tree));
    }

-- Trees stand on when the nodes behind them go.
mutual
  kept : (ts : List Term) (n : ℕ) → IsGraph ts → (id : ℕ) (f : Formula) → id < n → Stands ts id f → Stands (take n ts) id f
  kept ts n graph id (Node k z fs) below (args, here, all) = (args, get_kept n ts id (term k z args) below here, all_kept ts n graph id args fs below (graph.downward id (term k z args) here) all)

  all_kept : (ts : List Term) (n : ℕ) → IsGraph ts → (id : ℕ) (ids : List ℕ) (fs : Formulas) → id < n → All (λ a. a < id) ids → AllStand ts ids fs → AllStand (take n ts) ids fs
  all_kept ts n graph id ids Stop below down all = all
  all_kept ts n graph id ids (With f fs) below down (a, rest, is, head, tail) =
      let lower = subst (λ (js : List ℕ). All (λ b. b < id) js) is down in
      let first : a < id = All-head (λ b. b < id) a rest lower in
      (a, rest, is, kept ts n graph a f (omega arith) head, all_kept ts n graph id rest fs below (All-tail (λ b. b < id) a rest lower) tail)

taken_within : {X : Type 0} (n : ℕ) (xs : List X) (i : ℕ) (x : X) → slice_get (take n xs) i ≡ Some x → i < n
taken_within zero xs i x e = absurd (cc)
taken_within (suc n) [] i x e = absurd (cc)
taken_within (suc n) (y ∷ xs) zero x e = omega arith
taken_within (suc n) (y ∷ xs) (suc i) x e = let below = taken_within n xs i x e in omega arith

pub first_sorts : {l : Language} {ts : List Term} {sorts fewer : List (Option Sort)} (n : ℕ) → IsGraph ts → HaveSorts l ts sorts → fewer ≡ take n sorts → HaveSorts l (take n ts) fewer
first_sorts {l} {ts} {sorts} {fewer} n graph h e = subst (λ (ss : List (Option Sort)). HaveSorts l (take n ts) ss) (sym e) (record {
  each = λ id sort here.
      let one = h.each id sort (get_taken n sorts id sort here) in
      record { formula = one.formula; stands = record { tree = kept ts n graph id one.formula (taken_within n sorts id sort here) one.stands.tree }; is = one.is };
})

-- the table with the next node's sort
pub sorted_one : {l : Language} {ts : List Term} {sorts more : List (Option Sort)} {c : Columns} {t : Term} {sort : Option Sort} (id : ℕ) → length sorts ≡ id → HasColumns c l → HaveSorts l ts sorts → slice_get ts id ≡ Some t → All (λ a. a < id) t.args → sort ≡ sort_of_node sorts t c → more ≡ sorts ++ sort ∷ [] → HaveSorts l ts more
sorted_one {l} {ts} {sorts} {more} {c} {t} {sort} id long columns h here below is e =
    let at_end = subst (λ (n : ℕ). slice_get ts n ≡ Some t) (sym long) here in
    let within = subst (λ (n : ℕ). All (λ a. a < n) t.args) (sym long) below in
    let one : HasSort l ts (length sorts) sort = subst (λ (x : Option Sort). HasSort l ts (length sorts) x) (sym is) (next_sort (length sorts) columns h at_end within) in
    one_more h one e

pub longer : {more : List (Option Sort)} {id : ℕ} (sorts : List (Option Sort)) (sort : Option Sort) → length sorts ≡ id → more ≡ sorts ++ sort ∷ [] → length more ≡ id + 1
longer {more} {id} sorts sort long e = ap length e ∙ one_longer sorts ∙ ap (λ (n : ℕ). n + 1) long
  where
    one_longer : (xs : List (Option Sort)) → length (xs ++ sort ∷ []) ≡ length xs + 1
    one_longer [] = refl
    one_longer (x ∷ xs) = let rest = one_longer xs in omega arith
