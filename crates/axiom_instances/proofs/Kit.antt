-- Truth of formulas in one environment, piece by piece.
use Rattle.std.proofs.Common.{◌≡◌, ℕ, zero, suc, Bool, true, false, not, cond, ◌&&◌, ◌||◌, ◌⊎◌, inl, inr, List, [], ◌∷◌, ◌++◌, map, replicate, ℤ, pos, ◌≤ℤ◌, Option, Some, None, slice_get, refl, sym, ap, ◌∙◌, subst}
use Rattle.std.proofs.lemmas.Bool.{and_parts, or_cases}
use Rattle.object_types.specs.declared.references.Ref.{Ref}
use Rattle.object_types.specs.References.{is_reference}
use Rattle.terms.specs.declared.term.Kind.{Kind}
use Rattle.terms.specs.declared.sort.Sort.{Sort}
use Rattle.terms.specs.declared.sort.Sort.TheVariants as s
use Rattle.terms.specs.Formula.{Formula, Formulas, Node, Stop, With}
use Rattle.term_meaning.specs.Columns.{Column, further_keys}
use Rattle.term_meaning.specs.RawHeaps.{RawHeap, place_of}
use Rattle.term_meaning.specs.Meaning.{Value, BoolValue, PlainValue, HeapValue, Env, IsEnv, truth, scalar, number, heap, reference, int_value, ref_value, argument, read_in, column_at, Language, Quantified, Means, Gives, AllGive, AllHolds, InvHolds, sort_in}
use Rattle.term_meaning.proofs.Values.{gives_one, all_give_one, stable_true, some_value, body_stable}
use Rattle.term_meaning.proofs.Sorted.{same_sort_is, HasSort, HaveSorts, gives_sorted}
use Rattle.axiom_instances.specs.Terms.{trees, num, get, eq, le, no, both, either, imp}
use Rattle.axiom_instances.specs.Fitting as fit
use Rattle.axiom_instances.specs.Fitting.{Row, is_sort}

-- the formula has this value; is true whatever its value; has the value true
pub record Has (l : Language) (e : Env) (f : Formula) (v : Value) : Type 0 where
  pub value : Gives l e f v

pub record HaveAll (l : Language) (e : Env) (fs : Formulas) (vs : List Value) : Type 0 where
  pub values : AllGive l e fs vs

pub record Holds (l : Language) (e : Env) (f : Formula) : Type 0 where
  pub always : (x : Value) → Gives l e f x → truth x ≡ true

pub record Given (l : Language) (e : Env) (f : Formula) : Type 0 where
  pub value : Value
  pub gives : Gives l e f value
  pub holds : truth value ≡ true

-- what a row gives is true
pub record RowHolds (l : Language) (e : Env) (row : Row) : Type 0 where
  pub each : (ns : List ℕ) (f : Formula) → row ns ≡ Some f → Holds l e f

record Two (l : Language) (e : Env) (a b : Formula) (xs : List Value) : Type 0 where
  first : Value
  second : Value
  first_given : Gives l e a first
  second_given : Gives l e b second
  are : xs ≡ first ∷ second ∷ []

two : (l : Language) (e : Env) (a b : Formula) (xs : List Value) → AllGive l e (With a (With b Stop)) xs → Two l e a b xs
two l e a b xs g = record { first = g.0; second = g.4.0; first_given = g.3; second_given = g.4.3; are = g.2 ∙ ap (λ ys. g.0 ∷ ys) (g.4.2 ∙ ap (λ ys. g.4.0 ∷ ys) g.4.4) }

or_left : (p q : Bool) → p ≡ true → (p || q) ≡ true
or_left true q h = refl
or_left false q h = absurd (cc)

or_right : (p q : Bool) → q ≡ true → (p || q) ≡ true
or_right true q h = refl
or_right false q h = h

module _ {l : Language} {e : Env} where
  pub one : {a : Formula} {x : Value} → Has l e a x → HaveAll l e (With a Stop) (x ∷ [])
  one {a} {x} h = record { values = (x, [], refl, h.value, refl) }

  pub none : HaveAll l e Stop []
  none = record { values = refl }

  pub more : {a : Formula} {x : Value} {fs : Formulas} {vs : List Value} → Has l e a x → HaveAll l e fs vs → HaveAll l e (With a fs) (x ∷ vs)
  more {a} {x} {fs} {vs} h m = record { values = (x, vs, refl, h.value, m.values) }

  -- a node with arguments that have these values
  pub node_given : {k : Kind} {n : ℤ} {fs : Formulas} {vs : List Value} → HaveAll l e fs vs → Given l e (Node k n fs) → (z : Value) × Means l e k n vs z × (truth z ≡ true)
  node_given {k} {n} {fs} {vs} h g =
      (g.value, subst (λ (xs : List Value). Means l e k n xs g.value) (all_give_one l.program (AllHolds l e.me) (InvHolds l e.me) e fs g.gives.0 vs g.gives.1 h.values) g.gives.2, g.holds)

  pub node_holds : {k : Kind} {n : ℤ} {fs : Formulas} {vs : List Value} → HaveAll l e fs vs → ((z : Value) → Means l e k n vs z → truth z ≡ true) → Holds l e (Node k n fs)
  node_holds {k} {n} {fs} {vs} h f = record {
    always = λ x g. f x (subst (λ (xs : List Value). Means l e k n xs x) (all_give_one l.program (AllHolds l e.me) (InvHolds l e.me) e fs g.0 vs g.1 h.values) g.2);
  }

  pub node_has : {k : Kind} {n : ℤ} {fs : Formulas} {vs : List Value} {z : Value} → HaveAll l e fs vs → Means l e k n vs z → Has l e (Node k n fs) z
  node_has {k} {n} {fs} {vs} {z} h m = record { value = (vs, h.values, m) }

  pub node_value : {k : Kind} {n : ℤ} {fs : Formulas} {vs : List Value} {z : Value} → HaveAll l e fs vs → Has l e (Node k n fs) z → Means l e k n vs z
  node_value {k} {n} {fs} {vs} {z} h g = subst (λ (xs : List Value). Means l e k n xs z) (all_give_one l.program (AllHolds l e.me) (InvHolds l e.me) e fs g.value.0 vs g.value.1 h.values) g.value.2

  pub behind : (ts : List Formula) {t : Formula} {vs : List Value} {v : Value} → HaveAll l e (trees ts) vs → Has l e t v → HaveAll l e (trees (ts ++ t ∷ [])) (vs ++ v ∷ [])
  behind [] {t} {vs} {v} m h = record { values = (v, [], ap (λ vs. vs ++ v ∷ []) m.values, h.value, refl) }
  behind (s ∷ ts) {t} {vs} {v} m h = record { values = (m.values.0, m.values.1 ++ v ∷ [], ap (λ vs. vs ++ v ∷ []) m.values.2, m.values.3, (behind ts (record { values = m.values.4 }) h).values) }

  pub same_values : {f : Formula} {x y : Value} → Has l e f x → Has l e f y → x ≡ y
  same_values {f} {x} {y} a b = gives_one l.program (AllHolds l e.me) (InvHolds l e.me) e f x y a.value b.value

  pub given_has : {f : Formula} {x : Value} → Has l e f x → Given l e f → truth x ≡ true
  given_has {f} {x} h g = ap truth (gives_one l.program (AllHolds l e.me) (InvHolds l e.me) e f x g.value h.value g.gives) ∙ g.holds

  -- Each formula has a value, as far as truths go.
  pub with_value : (f : Formula) (b : Bool) → ((x : Value) → Has l e f x → b ≡ true) → b ≡ true
  with_value f b g = stable_true b (λ fails. some_value l.program (AllHolds l e.me) (InvHolds l e.me) e (body_stable l.program e.me 0 l.quantified) f (λ v. fails (g v.0 (record { value = v.1 }))))

  pub holds_by : {f g : Formula} → ((x : Value) → Has l e f x → Holds l e g) → Holds l e g
  holds_by {f} {g} h = record { always = λ y m. with_value f (truth y) (λ x v. (h x v).always y m) }

  -- Connectives.
  pub imp_holds : {a b : Formula} → (Given l e a → Holds l e b) → Holds l e (imp a b)
  imp_holds {a} {b} f = record { always = λ x g. of_two x (two l e a b g.0 g.1) g.2 }
    where
      by_test : (p q : Bool) → (p ≡ true → q ≡ true) → (not p || q) ≡ true
      by_test true q h = h refl
      by_test false q h = refl

      of_two : {xs : List Value} (x : Value) → Two l e a b xs → x ≡ BoolValue (not (truth (argument xs 0)) || truth (argument xs 1)) → truth x ≡ true
      of_two {xs} x t m = ap truth m ∙ ap (λ xs. not (truth (argument xs 0)) || truth (argument xs 1)) t.are ∙ by_test (truth t.first) (truth t.second) (λ h. (f (record { value = t.first; gives = t.first_given; holds = h })).always t.second t.second_given)

  pub imp_elim : {a b : Formula} → Holds l e (imp a b) → Holds l e a → Holds l e b
  imp_elim {a} {b} f h = record {
    always = λ y g. with_value a (truth y) (λ x v. by_test (truth x) (truth y) (f.always (BoolValue (not (truth x) || truth y)) (x ∷ y ∷ [], (x, y ∷ [], refl, v.value, (y, [], refl, g, refl)), refl)) (h.always x v.value));
  }
    where
      by_test : (p q : Bool) → (not p || q) ≡ true → p ≡ true → q ≡ true
      by_test true q i j = i
      by_test false q i j = absurd (cc)

  pub both_given : {a b : Formula} → Given l e (both a b) → Given l e a × Given l e b
  both_given {a} {b} g =
      let t = two l e a b g.gives.0 g.gives.1 in
      let parts = and_parts (truth t.first) (truth t.second) (ap (λ xs. truth (argument xs 0) && truth (argument xs 1)) (sym t.are) ∙ ap truth (sym g.gives.2) ∙ g.holds) in
      (record { value = t.first; gives = t.first_given; holds = parts.0 }, record { value = t.second; gives = t.second_given; holds = parts.1 })

  pub both_hold : {a b : Formula} → Holds l e a → Holds l e b → Holds l e (both a b)
  both_hold {a} {b} f h = record { always = λ x g. of_two x (two l e a b g.0 g.1) g.2 }
    where
      by_test : (p q : Bool) → p ≡ true → q ≡ true → (p && q) ≡ true
      by_test true q i j = j
      by_test false q i j = i

      of_two : {xs : List Value} (x : Value) → Two l e a b xs → x ≡ BoolValue (truth (argument xs 0) && truth (argument xs 1)) → truth x ≡ true
      of_two {xs} x t m = ap truth m ∙ ap (λ xs. truth (argument xs 0) && truth (argument xs 1)) t.are ∙ by_test (truth t.first) (truth t.second) (f.always t.first t.first_given) (h.always t.second t.second_given)

  pub either_given : {a b : Formula} → Given l e (either a b) → Given l e a ⊎ Given l e b
  either_given {a} {b} g =
      let t = two l e a b g.gives.0 g.gives.1 in
      elim (or_cases (truth t.first) (truth t.second) (ap (λ xs. truth (argument xs 0) || truth (argument xs 1)) (sym t.are) ∙ ap truth (sym g.gives.2) ∙ g.holds)) [
        | inl h ↦ inl (record { value = t.first; gives = t.first_given; holds = h })
        | inr h ↦ inr (record { value = t.second; gives = t.second_given; holds = h })
      ]

  either_by : (a b : Formula) → ((x y : Value) → Gives l e a x → Gives l e b y → (truth x || truth y) ≡ true) → Holds l e (either a b)
  either_by a b f = record { always = λ x g. of_two x (two l e a b g.0 g.1) g.2 }
    where
      of_two : {xs : List Value} (x : Value) → Two l e a b xs → x ≡ BoolValue (truth (argument xs 0) || truth (argument xs 1)) → truth x ≡ true
      of_two {xs} x t m = ap truth m ∙ ap (λ xs. truth (argument xs 0) || truth (argument xs 1)) t.are ∙ f t.first t.second t.first_given t.second_given

  pub left_holds : {a b : Formula} → Holds l e a → Holds l e (either a b)
  left_holds {a} {b} h = either_by a b (λ x y g i. or_left (truth x) (truth y) (h.always x g))

  pub right_holds : {a b : Formula} → Holds l e b → Holds l e (either a b)
  right_holds {a} {b} h = either_by a b (λ x y g i. or_right (truth x) (truth y) (h.always y i))

  pub no_holds : {a : Formula} → (Given l e a → ⊥) → Holds l e (no a)
  no_holds {a} f = record { always = λ x g. of_one x g.0 g.1 g.2 }
    where
      by_test : (b : Bool) → (b ≡ true → ⊥) → not b ≡ true
      by_test true h = absurd (h refl)
      by_test false h = refl

      of_one : (x : Value) (xs : List Value) → AllGive l e (With a Stop) xs → x ≡ BoolValue (not (truth (argument xs 0))) → truth x ≡ true
      of_one x xs g m = ap truth m ∙ ap (λ xs. not (truth (argument xs 0))) g.2 ∙ by_test (truth g.0) (λ h. f (record { value = g.0; gives = g.3; holds = h }))

  pub no_given : {a : Formula} → Given l e (no a) → Holds l e a → ⊥
  no_given {a} g h = by_test (truth g.gives.1.0) (h.always g.gives.1.0 g.gives.1.3) (ap (λ xs. not (truth (argument xs 0))) (sym g.gives.1.2) ∙ ap truth (sym g.gives.2) ∙ g.holds)
    where
      by_test : (b : Bool) → b ≡ true → not b ≡ true → ⊥
      by_test true i j = cc
      by_test false i j = cc

  -- Equality and order.
  pub eq_given : {a b : Formula} {x y : Value} → Has l e a x → Has l e b y → Given l e (eq a b) → x ≡ y
  eq_given {a} {b} {x} {y} h i g = let d = node_given (more h (one i)) g in d.1.yes d.2

  pub eq_holds : {a b : Formula} {x y : Value} → Has l e a x → Has l e b y → x ≡ y → Holds l e (eq a b)
  eq_holds {a} {b} {x} {y} h i same = node_holds (more h (one i)) (λ z m. m.holds same)

  -- what an equality or an order that holds is of, as far as tests go
  pub eq_elim : {a b : Formula} {x y : Value} (test : Bool) → Has l e a x → Has l e b y → Holds l e (eq a b) → (x ≡ y → test ≡ true) → test ≡ true
  eq_elim {a} {b} {x} {y} test h i f g = with_value (eq a b) test (λ z v. g ((node_value (more h (one i)) v).yes (f.always z v.value)))

  pub le_elim : {a b : Formula} {x y : Value} (test : Bool) → Has l e a x → Has l e b y → Holds l e (le a b) → (number x ≤ℤ number y → test ≡ true) → test ≡ true
  le_elim {a} {b} {x} {y} test h i f g = with_value (le a b) test (λ z v. g ((node_value (more h (one i)) v).yes (f.always z v.value)))

  pub le_given : {a b : Formula} {x y : Value} → Has l e a x → Has l e b y → Given l e (le a b) → number x ≤ℤ number y
  le_given {a} {b} {x} {y} h i g = let d = node_given (more h (one i)) g in d.1.yes d.2

  pub le_holds : {a b : Formula} {x y : Value} → Has l e a x → Has l e b y → number x ≤ℤ number y → Holds l e (le a b)
  le_holds {a} {b} {x} {y} h i below = node_holds (more h (one i)) (λ z m. m.holds below)

  pub num_has : (n : ℤ) → Has l e (num n) (int_value n)
  num_has n = record { value = ([], refl, refl) }

  -- what a column holds
  pub get_has : {n : ℕ} {h o : Formula} (ks : List Formula) {x : RawHeap} {r : Ref} {vs : List Value} (c : Column) → column_at l.program (pos n) ≡ Some c → Has l e h (HeapValue x) → Has l e o (ref_value r) → HaveAll l e (trees ks) vs → Has l e (get n h o ks) (PlainValue (x (place_of c (map scalar vs)) r))
  get_has {n} {h} {o} ks {x} {r} {vs} c is a b m = node_has (more a (more b m)) (ap (λ c. read_in c (HeapValue x ∷ ref_value r ∷ vs)) (sym is))

  -- the same where the values aren't known to be of these sorts
  pub get_any : {n : ℕ} {h o : Formula} (ks : List Formula) {x r : Value} {vs : List Value} (c : Column) → column_at l.program (pos n) ≡ Some c → Has l e h x → Has l e o r → HaveAll l e (trees ks) vs → Has l e (get n h o ks) (PlainValue (heap x (place_of c (map scalar vs)) (reference r)))
  get_any {n} {h} {o} ks {x} {r} {vs} c is a b m = node_has (more a (more b m)) (ap (λ c. read_in c (x ∷ r ∷ vs)) (sym is))

  -- Rows.
  pub gives_holds : {f : Formula} → Holds l e f → RowHolds l e (fit.gives f)
  unfolding fit.gives
  gives_holds {f} h = record { each = each }
    where
      each : (ns : List ℕ) (g : Formula) → fit.gives f ns ≡ Some g → Holds l e g
      each [] g s = let same : f ≡ g = cc in subst (λ f. Holds l e f) same h
      each (n ∷ ns) g s = absurd (cc)

  pub fits_hold : {b : Bool} {row : Row} → (b ≡ true → RowHolds l e row) → RowHolds l e (fit.fits b row)
  unfolding fit.fits
  fits_hold {b} {row} h = record { each = each b h }
    where
      each : (b : Bool) → (b ≡ true → RowHolds l e row) → (ns : List ℕ) (g : Formula) → cond b (row ns) None ≡ Some g → Holds l e g
      each true h ns g s = (h refl).each ns g s
      each false h ns g s = absurd (cc)

  pub needs_holds : {X : Type 0} {o : Option X} {row : X → Row} → ((x : X) → o ≡ Some x → RowHolds l e (row x)) → RowHolds l e (fit.needs o row)
  unfolding fit.needs
  needs_holds {X} {o} {row} h = record { each = each o h }
    where
      each : (o : Option X) → ((x : X) → o ≡ Some x → RowHolds l e (row x)) → (ns : List ℕ) (g : Formula) → fit.needs o row ns ≡ Some g → Holds l e g
      each None h ns g s = absurd (cc)
      each (Some x) h ns g s = (h x refl).each ns g s

  pub number_holds : {row : ℕ → Row} → ((n : ℕ) → RowHolds l e (row n)) → RowHolds l e (fit.number row)
  unfolding fit.number
  number_holds {row} h = record { each = each }
    where
      each : (ns : List ℕ) (g : Formula) → fit.number row ns ≡ Some g → Holds l e g
      each [] g s = absurd (cc)
      each (n ∷ ns) g s = (h n).each ns g s

sort_is : (s : Sort) (o : Option Sort) → is_sort s o ≡ true → o ≡ Some s
sort_is s None h = absurd (cc)
sort_is s (Some t) h = ap Some (same_sort_is t s h)

references : (l : Language) (n : ℕ) (vs : List Value) → HaveSorts l.program (replicate n s.Ref) vs → (rs : List Ref) × (vs ≡ map ref_value rs)
references l zero vs h = ([], h)
references l (suc n) vs h =
    let m = references l n h.1 h.4 in
    (h.3.0 ∷ m.0, h.2 ∙ (λ i. h.3.1 i ∷ m.1 i))

module _ {l : Language} {e : Env} (env : IsEnv l.program e) (tree : ℕ → Option Formula) where
  pub term_holds : (y : Sort) {row : Formula → Row} → ((f : Formula) (v : Value) → Has l e f v → HasSort l.program y v → RowHolds l e (row f)) → RowHolds l e (fit.term l tree y row)
  unfolding fit.term
  term_holds y {row} h =
      number_holds (λ n. needs_holds (λ f t. fits_hold (λ b. record {
        each = λ ns g s. holds_by {f = f} (λ x v. (h f x v (gives_sorted l e env f y x (sort_is y (sort_in l f) b) v.value)).each ns g s);
      })))

  -- knowing the sort alone
  pub sorted_holds : (y : Sort) {row : Formula → Row} → ((f : Formula) → sort_in l f ≡ Some y → RowHolds l e (row f)) → RowHolds l e (fit.term l tree y row)
  unfolding fit.term
  sorted_holds y {row} h = number_holds (λ n. needs_holds (λ f t. fits_hold (λ b. h f (sort_is y (sort_in l f) b))))

  pub heap_holds : {row : Formula → Row} → ((f : Formula) (x : RawHeap) → Has l e f (HeapValue x) → RowHolds l e (row f)) → RowHolds l e (fit.heap l tree row)
  unfolding fit.heap
  heap_holds {row} h = term_holds s.Heap (λ f v g s. h f s.0 (subst (λ (v : Value). Has l e f v) s.1 g))

  pub ref_holds : {row : Formula → Row} → ((f : Formula) (r : Ref) → Has l e f (ref_value r) → is_reference r ≡ true → RowHolds l e (row f)) → RowHolds l e (fit.ref l tree row)
  unfolding fit.ref
  ref_holds {row} h = term_holds s.Ref (λ f v g s. h f s.0 (subst (λ (v : Value). Has l e f v) s.1 g) s.2)

  pub int_holds : {row : Formula → Row} → ((f : Formula) (z : ℤ) → Has l e f (int_value z) → RowHolds l e (row f)) → RowHolds l e (fit.int l tree row)
  unfolding fit.int
  int_holds {row} h = term_holds s.Int (λ f v g s. h f s.0 (subst (λ (v : Value). Has l e f v) s.1 g))

  pub terms_hold : (ss : List Sort) {row : List Formula → Row} → ((fs : List Formula) (vs : List Value) → HaveAll l e (trees fs) vs → HaveSorts l.program ss vs → RowHolds l e (row fs)) → RowHolds l e (fit.terms l tree ss row)
  unfolding fit.terms
  terms_hold [] {row} h = h [] [] none refl
  terms_hold (y ∷ ss) {row} h = term_holds y (λ f v g sorted. terms_hold ss (λ fs vs gs all_sorted. h (f ∷ fs) (v ∷ vs) (more g gs) (v, vs, refl, sorted, all_sorted)))

  pub refs_hold : {row : List Formula → Row} → ((fs : List Formula) (rs : List Ref) → HaveAll l e (trees fs) (map ref_value rs) → RowHolds l e (row fs)) → RowHolds l e (fit.refs l tree row)
  unfolding fit.refs
  refs_hold {row} h = number_holds (λ n. terms_hold (replicate n s.Ref) (λ fs vs g sorted. let r = references l n vs sorted in h fs r.0 (subst (λ (vs : List Value). HaveAll l e (trees fs) vs) r.1 g)))

  pub column_holds : {row : ℕ → Column → List Formula → Row} → ((n : ℕ) (c : Column) (ks : List Formula) (vs : List Value) → column_at l.program (pos n) ≡ Some c → HaveAll l e (trees ks) vs → HaveSorts l.program (further_keys l.program c) vs → RowHolds l e (row n c ks)) → RowHolds l e (fit.column l tree row)
  unfolding fit.column
  column_holds {row} h = number_holds (λ n. needs_holds (λ c is. terms_hold (further_keys l.program c) (λ ks vs g sorted. h n c ks vs is g sorted)))

  pub quantified_holds : (row : ℕ → Formula → List Formula → Row) → ((n : ℕ) (q : Quantified) (args : List Formula) (vs : List Value) → slice_get l.quantified n ≡ Some q → HaveAll l e (trees args) vs → RowHolds l e (row n q.body args)) → RowHolds l e (fit.quantified l tree row)
  unfolding fit.quantified
  quantified_holds row h = number_holds (λ n. needs_holds (λ q is. terms_hold q.holes (λ args vs g sorted. h n q args vs is g)))
