-- Terms that stand for trees of some sort: so do their arguments, and all have values of their sorts. From many-sorted first-order logic.
use Rattle.std.proofs.Common.{◌≡◌, ◌++◌, ℕ, ℤ, true, List, [], ◌∷◌, map, Option, Some, None, slice_get, option_and_then, refl, ap, sym, ◌∙◌, subst}
use Rattle.terms.specs.declared.term.Term.{Term}
use Rattle.terms.specs.declared.term.Kind.{Kind}
use Rattle.terms.specs.declared.term.Kind.TheVariants.{Eq}
use Rattle.terms.specs.declared.sort.Sort.{Sort}
use Rattle.terms.specs.Sorts.{sort_in as sort_of}
use Rattle.terms.specs.Formula.{Formula, Formulas, Node, Stop, With, term, Stands, AllStand}
use Rattle.term_meaning.specs.Columns.{column_sorts}
use Rattle.term_meaning.specs.Meaning.{Language, Env, IsEnv, Value, IsValuation, sort_in, sorts_in, quantified_sorts}
use Rattle.term_meaning.specs.ValueSorts.{HasSort, HaveSorts}
use Rattle.term_meaning.proofs.Sorted.{gives_sorted, of_node}
use Rattle.term_meaning.proofs.Valuations.{trees}
use Rattle.vcc_rules.specs.Equality.{sides_of, sides}
use Rattle.vcc_rules.specs.Law.{AreSortsOf}
use Rattle.rule_maps.specs.Rows.{is_sort, is_sorted}

-- the term stands for a tree of this sort
pub record IsOfSort (l : Language) (terms : List Term) (t : ℕ) (y : Sort) : Type 0 where
  pub tree : Formula
  pub stands : Stands terms t tree
  pub sort : sort_in l tree ≡ Some y

-- the terms stand for trees of these sorts, one by one
abbrev pub AreOfSorts : Language → List Term → List ℕ → List Sort → Type 0
AreOfSorts l terms [] [] = Unit {0}
AreOfSorts l terms (t ∷ ts) (y ∷ ys) = IsOfSort l terms t y × AreOfSorts l terms ts ys
AreOfSorts l terms _ _ = ⊥

-- the term stands for a tree of some sort
pub record IsOfSomeSort (l : Language) (terms : List Term) (t : ℕ) : Type 0 where
  pub sort : Sort
  pub is : IsOfSort l terms t sort

-- sorts of a term's arguments, by which its kind gives it its own
pub record SortsAt (l : Language) (terms : List Term) (t : Term) (y : Sort) : Type 0 where
  pub args : List Sort
  pub are : AreOfSorts l terms t.args args
  pub gives : sort_of t.kind t.index args (column_sorts l.program) (quantified_sorts l) ≡ Some y

-- What has a sort among those that a rule holds.

the_sort : (o : Option (Option Sort)) → is_sort o ≡ true → (y : Sort) × (o ≡ Some (Some y))
the_sort None h = absurd (cc)
the_sort (Some None) h = absurd (cc)
the_sort (Some (Some y)) h = (y, refl)

pub by_sorts : (l : Language) (terms : List Term) (sorts : List (Option Sort)) → AreSortsOf l terms sorts → (t : ℕ) → is_sorted sorts t ≡ true → IsOfSomeSort l terms t
by_sorts l terms sorts suits t h =
    let y = the_sort (slice_get sorts t) h in
    let f = suits.each t y.0 y.1 in
    record { sort = y.0; is = record { tree = f.0; stands = f.1; sort = f.2 } }

-- Arguments.

of_parts : (a : Option Sort) (b : Option (List Sort)) (ss : List Sort) → option_and_then (λ a. option_and_then (λ as'. Some (a ∷ as')) b) a ≡ Some ss → (c : Sort) × (cs : List Sort) × (a ≡ Some c) × (b ≡ Some cs) × (ss ≡ c ∷ cs)
of_parts None b ss h = absurd (cc)
of_parts (Some a) None ss h = absurd (cc)
of_parts (Some a) (Some as') ss h = (a, as', refl, refl, (cc))

arguments_sorted : (l : Language) (terms : List Term) (fs : Formulas) (ids : List ℕ) (ss : List Sort) → AllStand terms ids fs → sorts_in l fs ≡ Some ss → AreOfSorts l terms ids ss
arguments_sorted l terms Stop ids ss all h =
    let none : [] ≡ ss = cc in
    subst (λ (xs : List ℕ). AreOfSorts l terms xs ss) (sym all) (subst (λ (ys : List Sort). AreOfSorts l terms [] ys) none tt)
arguments_sorted l terms (With f fs) ids ss (a, rest, e, s, all) h =
    let o = of_parts (sort_in l f) (sorts_in l fs) ss h in
    subst (λ (xs : List ℕ). AreOfSorts l terms xs ss) (sym e)
    (subst (λ (ys : List Sort). AreOfSorts l terms (a ∷ rest) ys) (sym o.4)
    (record { tree = f; stands = s; sort = o.2 }, arguments_sorted l terms fs rest o.1 all o.3))

args_of : (k : Kind) (xs : List ℕ) (a b : ℕ) → sides_of k xs ≡ Some (a, b) → xs ≡ a ∷ b ∷ []
args_of Eq (c ∷ d ∷ []) a b h =
    let w : (c, d) ≡ (a, b) = cc in
    let p : c ≡ a = ap (λ (p : ℕ × ℕ). p.0) w in
    let q : d ≡ b = ap (λ (p : ℕ × ℕ). p.1) w in
    λ i. p i ∷ q i ∷ []
args_of Eq [] a b h = absurd (cc)
args_of Eq (c ∷ []) a b h = absurd (cc)
args_of Eq (c ∷ d ∷ f ∷ xs) a b h = absurd (cc)
args_of _ xs a b h = absurd (cc)

sides_at : (o : Option Term) (a b : ℕ) → option_and_then (λ (n : Term). sides_of n.kind n.args) o ≡ Some (a, b) → (n : Term) × (o ≡ Some n) × (n.args ≡ a ∷ b ∷ [])
sides_at None a b h = absurd (cc)
sides_at (Some n) a b h = (n, refl, args_of n.kind n.args a b h)

first_of : (l : Language) (terms : List Term) (a : ℕ) (rest : List ℕ) (ss : List Sort) → AreOfSorts l terms (a ∷ rest) ss → IsOfSomeSort l terms a
first_of l terms a rest [] h = absurd h
first_of l terms a rest (y ∷ ys) h = record { sort = y; is = h.0 }

both_of : (l : Language) (terms : List Term) (a b : ℕ) (ss : List Sort) → AreOfSorts l terms (a ∷ b ∷ []) ss → IsOfSomeSort l terms a × IsOfSomeSort l terms b
both_of l terms a b [] h = absurd h
both_of l terms a b (y ∷ ys) h = (record { sort = y; is = h.0 }, first_of l terms b [] ys h.1)

-- the last argument, and those before it
pub split_end : (l : Language) (terms : List Term) (ks : List ℕ) (w : ℕ) (ss : List Sort) → AreOfSorts l terms (ks ++ w ∷ []) ss → (front : List Sort) × (end : Sort) × (ss ≡ front ++ end ∷ []) × AreOfSorts l terms ks front × IsOfSort l terms w end
split_end l terms [] w [] h = absurd h
split_end l terms [] w (y ∷ []) h = ([], y, refl, tt, h.0)
split_end l terms [] w (y ∷ z ∷ ys) h = absurd h.1
split_end l terms (k ∷ ks) w [] h = absurd h
split_end l terms (k ∷ ks) w (y ∷ ys) h =
    let o = split_end l terms ks w ys h.1 in
    (y ∷ o.0, o.1, ap (λ xs. y ∷ xs) o.2, (h.0, o.3), o.4)

-- Values.

module _ (l : Language) (e : Env) (v : ℕ → Value) (terms : List Term) (env : IsEnv l.program e) (valued : IsValuation l e terms v) where
  tree_sorts : (i : ℕ) (t : Term) (y : Sort) (f : Formula) → slice_get terms i ≡ Some t → Stands terms i f → sort_in l f ≡ Some y → SortsAt l terms t y
  tree_sorts i t y (Node k n fs) g (ids, at, all) h =
      let same : term k n ids ≡ t = (let e : Some (term k n ids) ≡ Some t = sym at ∙ g in cc) in
      let o = of_node l e env k n (sorts_in l fs) y h in
      subst (λ (t : Term). SortsAt l terms t y) same (record { args = o.0; are = arguments_sorted l terms fs ids o.0 all o.1; gives = o.2 })

  pub node_sorts : (i : ℕ) (t : Term) (y : Sort) → slice_get terms i ≡ Some t → IsOfSort l terms i y → SortsAt l terms t y
  node_sorts i t y g h = tree_sorts i t y h.tree g h.stands h.sort

  -- the first argument has a sort
  pub first_sorted : (i : ℕ) (k : Kind) (n : ℤ) (a : ℕ) (rest : List ℕ) → slice_get terms i ≡ Some (term k n (a ∷ rest)) → IsOfSomeSort l terms i → IsOfSomeSort l terms a
  first_sorted i k n a rest g h =
      let o = node_sorts i (term k n (a ∷ rest)) h.sort g h.is in
      first_of l terms a rest o.args o.are

  -- so have both sides of an equality
  pub sides_sorted : (t a b : ℕ) → sides terms t ≡ Some (a, b) → IsOfSomeSort l terms t → IsOfSomeSort l terms a × IsOfSomeSort l terms b
  sides_sorted t a b g h =
      let n = sides_at (slice_get terms t) a b g in
      let o = node_sorts t n.0 h.sort n.1 h.is in
      both_of l terms a b o.args (subst (λ (xs : List ℕ). AreOfSorts l terms xs o.args) n.2 o.are)

  pub value_sorted : (t : ℕ) (y : Sort) → IsOfSort l terms t y → HasSort l.program y (v t)
  value_sorted t y h = gives_sorted l e env h.tree y (v t) h.sort (trees l e terms v t h.tree valued h.stands)

  pub all_sorted : (ts : List ℕ) (ys : List Sort) → AreOfSorts l terms ts ys → HaveSorts l.program ys (map v ts)
  all_sorted [] [] h = refl
  all_sorted [] (y ∷ ys) h = absurd h
  all_sorted (t ∷ ts) [] h = absurd h
  all_sorted (t ∷ ts) (y ∷ ys) h = (v t, map v ts, refl, value_sorted t y h.0, all_sorted ts ys h.1)
