-- What is laid out stays, is laid out again at once, and is the formula's numbering.
use Rattle.std.proofs.Common.{◌≡◌, ℕ, zero, suc, ℤ, pos, negsuc, ◌<◌, List, [], ◌∷◌, ◌++◌, length, get_or, All, Option, None, Some, slice_get, inl, refl, ap, sym, ◌∙◌, subst, arith}
use Rattle.std.proofs.lemmas.List.Elements.{All-head, All-tail}
use Rattle.terms.specs.declared.term.Term.{Term}
use Rattle.terms.specs.declared.term.Kind.TheVariants as k
use Rattle.terms.specs.Formula.{Formula, Formulas, Node, Stop, With, leaf, term, Numbers, AllNumbers, Stands, AllStand}
use Rattle.terms.proofs.Numbering.{Extends, extends_trans, interns_extends, interns_at, get_extended, all_stand_more}
use Rattle.term_graph.specs.Graph.{IsGraph}
use Rattle.term_meaning.specs.Filling.{trees, tree_at, fill, fill_all}
use Rattle.graph_numbering.specs.declared.layout.Layout.{Layout}
use Rattle.graph_numbering.specs.declared.layout.Layout.TheVariants.{Itself, Given, Null}
use Rattle.graph_numbering.specs.Layout.{argument, given, layout_of, LaysAs, Lays, AllLays}

append_nil : {X : Type 0} (xs : List X) → xs ++ [] ≡ xs
append_nil [] = refl
append_nil (x ∷ xs) = ap (λ ys. x ∷ ys) (append_nil xs)

pub extends_same : (old new : List Term) → new ≡ old → Extends old new
extends_same old new e = ([], e ∙ sym (append_nil old))

null_term : Term
null_term = term k.Null (pos 0) []

-- more terms stand behind what is laid out
as_extends : (l : Layout) (own : Type 0) (old new : List Term) (id : ℕ) → (own → Extends old new) → LaysAs l own old new id → Extends old new
as_extends Itself own old new id f h = f h
as_extends (Given a) own old new id f h = extends_same old new h.0
as_extends Null own old new id f h = interns_extends old new (term k.Null (pos 0) []) id h

mutual
  pub lays_extends : (args : Option (List ℕ)) (f : Formula) (old new : List Term) (id : ℕ) → Lays args f old new id → Extends old new
  lays_extends args (Node kind n fs) old new id h =
      as_extends (layout_of args kind n) _ old new id (λ o. extends_trans old o.0 new (all_extends args fs old o.0 o.1 o.2) (interns_extends o.0 new (term kind n o.1) id o.3)) h

  pub all_extends : (args : Option (List ℕ)) (fs : Formulas) (old new : List Term) (ids : List ℕ) → AllLays args fs old new ids → Extends old new
  all_extends args Stop old new ids h = extends_same old new h.0
  all_extends args (With f fs) old new ids (mid, a, rest, x, y, e) =
      extends_trans old mid new (lays_extends args f old mid a x) (all_extends args fs mid new rest y)

-- what is laid out is laid out again at once
as_again : (l : Layout) (own again : Type 0) (old new now : List Term) (id : ℕ) → Extends new now → (own → again) → LaysAs l own old new id → LaysAs l again now now id
as_again Itself own again old new now id e f h = f h
as_again (Given a) own again old new now id e f h = (refl, h.1)
as_again Null own again old new now id e f h = inl (refl, get_extended new now id (term k.Null (pos 0) []) e (interns_at old new (term k.Null (pos 0) []) id h))

mutual
  pub lays_again : (args : Option (List ℕ)) (f : Formula) (old new now : List Term) (id : ℕ) → Extends new now → Lays args f old new id → Lays args f now now id
  lays_again args (Node kind n fs) old new now id e h =
      as_again (layout_of args kind n) _ _ old new now id e
      (λ o. (now, o.1, all_again args fs old o.0 now o.1 (extends_trans o.0 new now (interns_extends o.0 new (term kind n o.1) id o.3) e) o.2, inl (refl, get_extended new now id (term kind n o.1) e (interns_at o.0 new (term kind n o.1) id o.3))))
      h

  pub all_again : (args : Option (List ℕ)) (fs : Formulas) (old new now : List Term) (ids : List ℕ) → Extends new now → AllLays args fs old new ids → AllLays args fs now now ids
  all_again args Stop old new now ids e h = (refl, h.1)
  all_again args (With f fs) old new now ids e (mid, a, rest, x, y, q) =
      (now, a, rest, lays_again args f old mid now a (extends_trans mid new now (all_extends args fs mid new rest y) e) x, all_again args fs mid new now rest e y, q)

-- without arguments it is the formula's numbering
mutual
  pub lays_numbers : (f : Formula) (old new : List Term) (id : ℕ) → Lays None f old new id → Numbers f old new id
  lays_numbers (Node kind n fs) old new id (mid, ids, all, i) = (mid, ids, all_lays_number fs old mid ids all, i)

  all_lays_number : (fs : Formulas) (old new : List Term) (ids : List ℕ) → AllLays None fs old new ids → AllNumbers fs old new ids
  all_lays_number Stop old new ids h = h
  all_lays_number (With f fs) old new ids (mid, a, rest, x, y, e) = (mid, a, rest, lays_numbers f old mid a x, all_lays_number fs mid new rest y, e)

-- what stands is numbered at once
mutual
  pub stands_numbers : (f : Formula) (ts : List Term) (id : ℕ) → Stands ts id f → Numbers f ts ts id
  stands_numbers (Node kind n fs) ts id (ids, g, all) = (ts, ids, all_stand_number fs ts ids all, inl (refl, g))

  all_stand_number : (fs : Formulas) (ts : List Term) (ids : List ℕ) → AllStand ts ids fs → AllNumbers fs ts ts ids
  all_stand_number Stop ts ids h = (refl, h)
  all_stand_number (With f fs) ts ids (a, rest, e, s, all) = (ts, a, rest, stands_numbers f ts a s, all_stand_number fs ts rest all, e)

-- an argument stands for its tree, and NULL for one that is wanting
given_numbers : (ids : List ℕ) (fs : List Formula) (old new : List Term) (n id : ℕ) (own : Type 0) → AllStand old ids (trees fs) → LaysAs (given (slice_get ids n)) own old new id → Numbers (get_or fs n (leaf k.Null (pos 0))) old new id
given_numbers ids [] old new n id own s h =
    (old, [], (refl, refl), subst (λ (xs : List ℕ). LaysAs (given (slice_get xs n)) own old new id) s h)
given_numbers ids (f ∷ fs) old new zero id own (a, rest, e, s, all) h =
    let here : (new ≡ old) × (id ≡ a) = subst (λ (xs : List ℕ). LaysAs (given (slice_get xs 0)) own old new id) e h in
    subst (λ (ts : List Term). Numbers f old ts id) (sym here.0) (subst (λ (i : ℕ). Numbers f old old i) (sym here.1) (stands_numbers f old a s))
given_numbers ids (f ∷ fs) old new (suc n) id own (a, rest, e, s, all) h =
    given_numbers rest fs old new n id own all (subst (λ (xs : List ℕ). LaysAs (given (slice_get xs (suc n))) own old new id) e h)

constant_numbers : (ids : List ℕ) (fs : List Formula) (old new : List Term) (n : ℤ) (id : ℕ) (own : Type 0) → AllStand old ids (trees fs) → LaysAs (argument ids n) own old new id → Numbers (tree_at fs n) old new id
constant_numbers ids fs old new (pos n) id own s h = given_numbers ids fs old new n id own s h
constant_numbers ids fs old new (negsuc n) id own s h = (old, [], (refl, refl), h)

-- with arguments it is the numbering of the formula filled with their trees
mutual
  pub lays_filled : (ids : List ℕ) (ts : List Formula) (f : Formula) (old new : List Term) (id : ℕ) → AllStand old ids (trees ts) → Lays (Some ids) f old new id → Numbers (fill ts f) old new id
  lays_filled ids ts (Node k.Ci n fs) old new id s h = constant_numbers ids ts old new n id _ s h
  lays_filled ids ts (Node k.Cr n fs) old new id s h = constant_numbers ids ts old new n id _ s h
  lays_filled ids ts (Node k.Ch n fs) old new id s h = constant_numbers ids ts old new n id _ s h
  lays_filled ids ts (Node kind n fs) old new id s h = (h.0, h.1, all_lays_filled ids ts fs old h.0 h.1 s h.2, h.3)

  all_lays_filled : (ids : List ℕ) (ts : List Formula) (fs : Formulas) (old new : List Term) (all : List ℕ) → AllStand old ids (trees ts) → AllLays (Some ids) fs old new all → AllNumbers (fill_all ts fs) old new all
  all_lays_filled ids ts Stop old new all s h = h
  all_lays_filled ids ts (With f fs) old new all s (mid, a, rest, x, y, e) =
      (mid, a, rest, lays_filled ids ts f old mid a s x, all_lays_filled ids ts fs mid new rest (all_stand_more old mid ids (trees ts) (lays_extends (Some ids) f old mid a x) s) y, e)

-- each node of a graph stands for a tree
trees_of : (ts : List Term) (m : ℕ) (ids : List ℕ) → ((a : ℕ) → a < m → (f : Formula) × Stands ts a f) → All (λ a. a < m) ids → (fs : Formulas) × AllStand ts ids fs
trees_of ts m [] each below = (Stop, refl)
trees_of ts m (a ∷ ids) each below =
    let one = each a (All-head (λ a. a < m) a ids below) in
    let more = trees_of ts m ids each (All-tail (λ a. a < m) a ids below) in
    (With one.0 more.0, (a, ids, refl, one.1, more.1))

pub node_at : {X : Type 0} (xs : List X) (i : ℕ) → i < length xs → (x : X) × (slice_get xs i ≡ Some x)
node_at [] i l = absurd (omega arith)
node_at (x ∷ xs) zero l = (x, refl)
node_at (x ∷ xs) (suc i) l = node_at xs i (omega arith)

tree_below : (n : ℕ) (ts : List Term) → IsGraph ts → (v : ℕ) → v < n → v < length ts → (f : Formula) × Stands ts v f
tree_below zero ts g v l w = absurd (omega arith)
tree_below (suc n) ts g v l w =
    let here = node_at ts v w in
    let each : (a : ℕ) → a < v → (f : Formula) × Stands ts a f = λ a b. tree_below n ts g a (omega arith) (omega arith) in
    let all = trees_of ts v here.0.args each (g.downward v here.0 here.1) in
    (Node here.0.kind here.0.index all.0, (here.0.args, here.1, all.1))

pub tree_of : (ts : List Term) (v : ℕ) → IsGraph ts → v < length ts → (f : Formula) × Stands ts v f
tree_of ts v g w = tree_below (suc v) ts g v (omega arith) w
