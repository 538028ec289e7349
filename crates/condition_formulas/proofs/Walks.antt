-- A walk over a graph: what stands in the list stays there, and what is marked adds nothing.
use Rattle.std.specs.Prelude.{◌≡◌, ℕ, ℤ, zero, suc, pos, negsuc, Bool, true, false, ◌||◌, ◌==◌, if◌then◌else◌, List, [], ◌∷◌, ◌++◌, ◌+◌, ◌<◌, ◌≤◌, length, drop, slice_index_or, slice_set, slice_get, replicate, Some}
use Rattle.std.proofs.Common.{refl, ap, sym, ◌∙◌, subst, get_or, append_assoc, eq-eqb, true≢false, arith}
use Rattle.std.proofs.lemmas.List.{append-nil, get_or-set_other}
use Rattle.std.proofs.lemmas.Option.{slice_get_within}
use Rattle.std.proofs.lemmas.Bool.{eqb-true, eqb-false}
use Rattle.std.proofs.Math.ListN.{drop_of_length-le}
use Rattle.conditions.proofs.Same.{both_true}
use Rattle.method.proofs.Global.{both_and}
use Rattle.terms.specs.declared.term.Term.{Term}
use Rattle.terms.specs.declared.term.Kind.{Kind}
use Rattle.terms.specs.Formula.{Formula, Formulas, Node, Stop, With, Stands, AllStand, term}
use Rattle.conditions.specs.Formulas.{row, is_constant, is_number, with_number, constants, all_constants}
use Rattle.condition_formulas.specs.Standing.{StandsAs, StandAll, Each}
use Rattle.condition_formulas.specs.Walks.{is_in, has_all, all_have_all, AreSeen}
use Rattle.condition_formulas.proofs.Rows.{at, as_long}
use Rattle.condition_formulas.proofs.Nodes.{parts, one_tree}

-- The list grows at its end.

pub record Grown (before after : List ℕ) : Type 0 where
  pub more : List ℕ
  pub is : after ≡ before ++ more

same_list : (found : List ℕ) → Grown found found
same_list found = record { more = []; is = sym (append-nil found) }

added : (z : ℤ) (found : List ℕ) → Grown found (with_number z found)
added (negsuc n) found = same_list found
added (pos n) found = elim (is_number n found) as (λ b. Grown found (if b then found else found ++ n ∷ [])) [ true ↦ same_list found | false ↦ record { more = n ∷ []; is = refl } ]

mutual
  grown : (f : Formula) (found : List ℕ) → Grown found (constants f found)
  grown (Node kind n fs) found = elim (is_constant kind) as (λ b. Grown found (if b then with_number n found else all_constants fs found)) [ true ↦ added n found | false ↦ all_grown fs found ]

  all_grown : (fs : Formulas) (found : List ℕ) → Grown found (all_constants fs found)
  all_grown Stop found = same_list found
  all_grown (With f fs) found =
      let a = grown f found in
      let b = all_grown fs (constants f found) in
      record { more = a.more ++ b.more; is = b.is ∙ ap (λ (xs : List ℕ). xs ++ b.more) a.is ∙ append_assoc found a.more b.more }

-- What is in it stays.

number_stays : (n : ℕ) (xs ys : List ℕ) → is_number n xs ≡ true → is_number n (xs ++ ys) ≡ true
number_stays n [] ys h = cc
number_stays n (m ∷ ms) ys h = elim (n == m) as (λ b. (b || is_number n ms) ≡ true → (b || is_number n (ms ++ ys)) ≡ true) [ true ↦ λ k. refl | false ↦ λ k. number_stays n ms ys k ] h

in_stays : (z : ℤ) (xs ys : List ℕ) → is_in z xs ≡ true → is_in z (xs ++ ys) ≡ true
in_stays (pos n) xs ys h = number_stays n xs ys h
in_stays (negsuc n) xs ys h = refl

mutual
  stays : (f : Formula) (xs ys : List ℕ) → has_all f xs ≡ true → has_all f (xs ++ ys) ≡ true
  stays (Node kind n fs) xs ys h = elim (is_constant kind) as (λ b. (if b then is_in n xs else all_have_all fs xs) ≡ true → (if b then is_in n (xs ++ ys) else all_have_all fs (xs ++ ys)) ≡ true) [ true ↦ λ k. in_stays n xs ys k | false ↦ λ k. all_stay fs xs ys k ] h

  all_stay : (fs : Formulas) (xs ys : List ℕ) → all_have_all fs xs ≡ true → all_have_all fs (xs ++ ys) ≡ true
  all_stay Stop xs ys h = refl
  all_stay (With f fs) xs ys h =
      let two = both_true (has_all f xs) (all_have_all fs xs) h in
      both_and (has_all f (xs ++ ys)) (all_have_all fs (xs ++ ys)) (stays f xs ys two.0) (all_stay fs xs ys two.1)

stays_grown : (f : Formula) {before after : List ℕ} → Grown before after → has_all f before ≡ true → has_all f after ≡ true
stays_grown f {before} {after} g h = subst (λ (xs : List ℕ). has_all f xs ≡ true) (sym g.is) (stays f before g.more h)

-- What has all adds nothing.

in_adds : (z : ℤ) (found : List ℕ) → is_in z found ≡ true → with_number z found ≡ found
in_adds (pos n) found h = ap (λ (b : Bool). if b then found else found ++ n ∷ []) h
in_adds (negsuc n) found h = refl

mutual
  pub adds_nothing : (f : Formula) (found : List ℕ) → has_all f found ≡ true → constants f found ≡ found
  adds_nothing (Node kind n fs) found h = elim (is_constant kind) as (λ b. (if b then is_in n found else all_have_all fs found) ≡ true → (if b then with_number n found else all_constants fs found) ≡ found) [ true ↦ λ k. in_adds n found k | false ↦ λ k. all_add_nothing fs found k ] h

  all_add_nothing : (fs : Formulas) (found : List ℕ) → all_have_all fs found ≡ true → all_constants fs found ≡ found
  all_add_nothing Stop found h = refl
  all_add_nothing (With f fs) found h =
      let two = both_true (has_all f found) (all_have_all fs found) h in
      ap (all_constants fs) (adds_nothing f found two.0) ∙ all_add_nothing fs found two.1

-- Behind its walk a formula has all.

last_is : (n : ℕ) (found : List ℕ) → is_number n (found ++ n ∷ []) ≡ true
last_is n [] = ap (λ (b : Bool). b || false) (eq-eqb n n refl)
last_is n (m ∷ ms) = elim (n == m) as (λ b. (b || is_number n (ms ++ n ∷ [])) ≡ true) [ true ↦ refl | false ↦ last_is n ms ]

number_in : (n : ℕ) (found : List ℕ) (b : Bool) → is_number n found ≡ b → is_number n (if b then found else found ++ n ∷ []) ≡ true
number_in n found true e = e
number_in n found false e = last_is n found

in_after : (z : ℤ) (found : List ℕ) → is_in z (with_number z found) ≡ true
in_after (pos n) found = number_in n found (is_number n found) refl
in_after (negsuc n) found = refl

mutual
  pub has_after : (f : Formula) (found : List ℕ) → has_all f (constants f found) ≡ true
  has_after (Node kind n fs) found =
      elim (is_constant kind) as (λ b. (if b then is_in n (if b then with_number n found else all_constants fs found) else all_have_all fs (if b then with_number n found else all_constants fs found)) ≡ true) [ true ↦ in_after n found | false ↦ all_have_after fs found ]

  all_have_after : (fs : Formulas) (found : List ℕ) → all_have_all fs (all_constants fs found) ≡ true
  all_have_after Stop found = refl
  all_have_after (With f fs) found =
      both_and (has_all f (all_constants fs (constants f found))) (all_have_all fs (all_constants fs (constants f found))) (stays_grown f (all_grown fs (constants f found)) (has_after f found)) (all_have_after fs (constants f found))

-- Nodes.

unrow : Formulas → List Formula
unrow Stop = []
unrow (With f fs) = f ∷ unrow fs

row_unrow : (fs : Formulas) → fs ≡ row (unrow fs)
unfolding unrow
row_unrow Stop = refl
row_unrow (With f fs) = ap (λ (gs : Formulas). With f gs) (row_unrow fs)

each_unrow : (ts : List Term) (ids : List ℕ) (fs : Formulas) → AllStand ts ids fs → Each ts ids (unrow fs)
unfolding unrow
each_unrow ts ids Stop all = subst (λ (is : List ℕ). Each ts is []) (sym all) tt
each_unrow ts ids (With f fs) (a, rest, is, head, tail) = subst (λ (js : List ℕ). Each ts js (f ∷ unrow fs)) (sym is) (record { tree = head }, each_unrow ts rest fs tail)

-- a node's term, where it is this tree
pub record Opened (ts : List Term) (t : Term) (f : Formula) : Type 0 where
  pub parts : List Formula
  pub is : f ≡ Node t.kind t.index (row parts)
  pub all : StandAll ts t.args parts

opens : (ts : List Term) (id : ℕ) (t : Term) (f : Formula) → slice_get ts id ≡ Some t → Stands ts id f → Opened ts t f
opens ts id t (Node k n gs) got (ids, is, all) =
    let p = parts t.kind k t.index n t.args ids (sym got ∙ is) in
    record {
      parts = unrow gs;
      is = sym (ap (λ (i : Kind). Node i t.index (row (unrow gs))) p.kind ∙ ap (λ (z : ℤ). Node k z (row (unrow gs))) p.index ∙ ap (λ (hs : Formulas). Node k n hs) (sym (row_unrow gs)));
      all = record { each = subst (λ (js : List ℕ). Each ts js (unrow gs)) (sym p.args) (each_unrow ts ids gs all) };
    }

pub opened : {ts : List Term} {id : ℕ} {t : Term} {f : Formula} → slice_get ts id ≡ Some t → StandsAs ts id f → Opened ts t f
opened {ts} {id} {t} {f} got is = opens ts id t f got is.tree

pub walked_constant : {ts : List Term} {t : Term} {f : Formula} → Opened ts t f → is_constant t.kind ≡ true → (found : List ℕ) → constants f found ≡ with_number t.index found
walked_constant {t = t} o e found =
    ap (λ (g : Formula). constants g found) o.is ∙ ap (λ (b : Bool). if b then with_number t.index found else all_constants (row o.parts) found) e

pub walked_node : {ts : List Term} {t : Term} {f : Formula} → (o : Opened ts t f) → is_constant t.kind ≡ false → (found : List ℕ) → constants f found ≡ all_constants (row o.parts) found
walked_node {t = t} o e found =
    ap (λ (g : Formula). constants g found) o.is ∙ ap (λ (b : Bool). if b then with_number t.index found else all_constants (row o.parts) found) e

pub has_now : (f : Formula) (found next : List ℕ) → next ≡ constants f found → has_all f next ≡ true
has_now f found next e = subst (λ (xs : List ℕ). has_all f xs ≡ true) (sym e) (has_after f found)

pub still_seen : (ts : List Term) (seen : List Bool) (f : Formula) (found next : List ℕ) → next ≡ constants f found → AreSeen ts seen found → AreSeen ts seen next
still_seen ts seen f found next e known = λ id g here is. subst (λ (xs : List ℕ). has_all g xs ≡ true) (sym e) (stays_grown g (grown f found) (known id g here is))

pub none_seen : (ts : List Term) (n : ℕ) (found : List ℕ) → AreSeen ts (replicate n false) found
none_seen ts n found = λ id g here is. absurd (nowhere n id here) where
  nowhere : (n id : ℕ) → slice_index_or (replicate n false) id false ≡ true → ⊥
  nowhere zero id here = true≢false (sym here)
  nowhere (suc n) zero here = true≢false (sym here)
  nowhere (suc n) (suc id) here = nowhere n id here

pub stands_within : {ts : List Term} {id : ℕ} {f : Formula} → StandsAs ts id f → id < length ts
stands_within {ts} {id} {f} is = tree_within ts id f is.tree where
  tree_within : (ts : List Term) (id : ℕ) (f : Formula) → Stands ts id f → id < length ts
  tree_within ts id (Node k n fs) (ids, got, all) = slice_get_within ts id (term k n ids) got

-- The walk.

pub record Turn (ts : List Term) (seen_before : List Bool) (found_before args : List ℕ) (seen : List Bool) (found : List ℕ) (i : ℕ) : Type 0 where
  pub long : length seen ≡ length seen_before
  pub goes : (fs : List Formula) → StandAll ts args fs → AreSeen ts seen_before found_before → (all_constants (row (drop i fs)) found ≡ all_constants (row fs) found_before) × AreSeen ts seen found

pub turn_first : (ts : List Term) (seen : List Bool) (found args : List ℕ) → Turn ts seen found args seen found 0
turn_first ts seen found args = record { long = refl; goes = λ fs all known. (refl, known) }

pub turn_next : (ts : List Term) (seen_before : List Bool) (found_before args : List ℕ) (seen next : List Bool) (found more : List ℕ) (i : ℕ) → Turn ts seen_before found_before args seen found i → i < length args → length next ≡ length seen → ((f : Formula) → StandsAs ts (get_or args i 0) f → AreSeen ts seen found → more ≡ constants f found) → ((f : Formula) → StandsAs ts (get_or args i 0) f → AreSeen ts seen found → AreSeen ts next more) → Turn ts seen_before found_before args next more (i + 1)
turn_next ts seen_before found_before args seen next found more i turn below long made known = record {
  long = long ∙ turn.long;
  goes = λ fs all start.
      let here = at i all below in
      let before = turn.goes fs all start in (
        ap (all_constants (row (drop (i + 1) fs))) (made here.tree here.here before.1) ∙ sym (ap (λ (gs : List Formula). all_constants (row gs) found) here.is) ∙ before.0,
        known here.tree here.here before.1,
      );
}

-- at the end all arguments are walked
pub turn_last : {ts : List Term} {seen_before : List Bool} {found_before args : List ℕ} {seen : List Bool} {found : List ℕ} {i : ℕ} → Turn ts seen_before found_before args seen found i → length args ≤ i → (fs : List Formula) → StandAll ts args fs → AreSeen ts seen_before found_before → (found ≡ all_constants (row fs) found_before) × AreSeen ts seen found
turn_last {found = found} {i = i} turn end fs all start =
    let before = turn.goes fs all start in
    let none : drop i fs ≡ [] = drop_of_length-le fs (omega (arith, as_long all)) in
    (sym (ap (λ (gs : List Formula). all_constants (row gs) found) none) ∙ before.0, before.1)

other_place : (seen : List Bool) (id n : ℕ) → (n == id) ≡ false → slice_index_or (slice_set seen id true) n false ≡ slice_index_or seen n false
other_place seen id n e = get_or-set_other seen id n true false (eqb-false n id e)

-- a node is marked
pub marked : (ts : List Term) (seen : List Bool) (found : List ℕ) (id : ℕ) (f : Formula) → StandsAs ts id f → has_all f found ≡ true → AreSeen ts seen found → AreSeen ts (slice_set seen id true) found
marked ts seen found id f is has known = λ n g here there. by_place n g there (n == id) refl here where
  by_place : (n : ℕ) (g : Formula) → StandsAs ts n g → (b : Bool) → (n == id) ≡ b → slice_index_or (slice_set seen id true) n false ≡ true → has_all g found ≡ true
  by_place n g there true e here =
      let same = one_tree ts id f g is.tree (subst (λ (k : ℕ). Stands ts k g) (eqb-true n id e) there.tree) in
      subst (λ (h : Formula). has_all h found ≡ true) same has
  by_place n g there false e here = known n g (sym (other_place seen id n e) ∙ here) there
