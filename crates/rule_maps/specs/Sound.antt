-- The rows of `map` give consequences.
use Rattle.std.proofs.Common.{◌≡◌, inl, inr, ◌-◌, ◌++◌, ℕ, zero, suc, ℤ, Bool, true, false, ◌||◌, List, [], ◌∷◌, map, Option, Some, None, slice_get, option_and_then, option_map, refl, ap, sym, ◌∙◌, subst}
use Rattle.std.proofs.lemmas.List.{map-append}
use Rattle.method.specs.declared.program.Program.{Program}
use Rattle.terms.specs.declared.term.Term.{Term}
use Rattle.terms.specs.declared.term.Literal.{Literal}
use Rattle.terms.specs.declared.term.Kind.TheVariants as k
use Rattle.terms.specs.declared.sort.Sort.{Sort}
use Rattle.terms.specs.declared.sort.Sort.TheVariants as s
use Rattle.terms.specs.declared.sort.Column.{Column as Sorted}
use Rattle.terms.specs.Sorts.{when, same_sorts, sort_in as sort_of}
use Rattle.terms.specs.Formula.{term}
use Rattle.term_meaning.specs.Columns.{Column, column_sorts, sorts_of, further_keys, value_sort, term_sort}
use Rattle.term_meaning.specs.RawHeaps.{Place, place_of, store_at}
use Rattle.term_meaning.specs.Meaning.{Language, Env, IsEnv, Value, PlainValue, HeapValue, truth, clause_true, scalar, heap, reference, column_at, read_in, store_in, IsValuation, quantified_sorts}
use Rattle.term_meaning.specs.ValueSorts.{HasSort, HaveSorts}
use Rattle.term_meaning.proofs.Sorted.{entry_at, same_sorts_are}
use Rattle.axiom_instances.proofs.Invariants.{plain_one}
use Rattle.axiom_instances.proofs.Maps.{front_of, end_of, read_there, read_elsewhere}
use Rattle.vcc_rules.specs.EqualitySound.{says}
use Rattle.vcc_rules.specs.Law.{IsConsequence, AreSortsOf}
use Rattle.rule_maps.specs.Rows.{IsRead, IsStore, IsReadOfStore, IsReadBack, IsOtherKey, IsOtherColumn, IsMap}
use Rattle.rule_maps.specs.SortedTerms.{IsOfSomeSort, AreOfSorts, by_sorts, split_end, node_sorts, first_sorted, sides_sorted, value_sorted, all_sorted}
use Rattle.rule_maps.specs.Places.{keys_of_place, same_reference, same_column, one_number}

-- Lists with something behind.

no_end : {X : Type 0} (xs : List X) (a : X) → [] ≡ xs ++ a ∷ [] → ⊥
no_end [] a e = absurd (cc)
no_end (x ∷ xs) a e = absurd (cc)

pub record SameEnds {X : Type 0} (xs ys : List X) (a b : X) : Type 0 where
  pub front : xs ≡ ys
  pub end : a ≡ b

pub same_ends : {X : Type 0} (xs ys : List X) (a b : X) → xs ++ a ∷ [] ≡ ys ++ b ∷ [] → SameEnds xs ys a b
same_ends [] [] a b e = record { front = refl; end = cc }
same_ends [] (y ∷ ys) a b e = let f : [] ≡ ys ++ b ∷ [] = cc in absurd (no_end ys b f)
same_ends (x ∷ xs) [] a b e = let f : xs ++ a ∷ [] ≡ [] = cc in absurd (no_end xs a (sym f))
same_ends (x ∷ xs) (y ∷ ys) a b e =
    let first : x ≡ y = cc in
    let more : xs ++ a ∷ [] ≡ ys ++ b ∷ [] = cc in
    let s = same_ends xs ys a b more in
    record { front = λ i. first i ∷ s.front i; end = s.end }

either : (x y : Bool) → (x ≡ false → y ≡ true) → x || (y || false) ≡ true
either true y f = refl
either false y f = rw (f refl) refl

-- What the sort of a term says of its column and its arguments.

when_true : (b : Bool) (a x : Sort) → when b a ≡ Some x → b ≡ true
when_true true a x h = refl
when_true false a x h = absurd (cc)

record ReadSorts (p : Program) (o : Option Column) (sorts : List Sort) : Type 0 where
  column : Column
  is : o ≡ Some column
  keys : sorts ≡ s.Ref ∷ further_keys p column

read_sorts : (p : Program) (a : Sort) (sorts : List Sort) (x : Sort) (o : Option Column) → option_and_then (λ (c : Sorted). when (same_sorts (a ∷ sorts) (s.Heap ∷ c.keys)) c.value) (option_map (sorts_of p) o) ≡ Some x → ReadSorts p o sorts
read_sorts p a sorts x None h = absurd (cc)
read_sorts p a sorts x (Some c) h =
    let same : a ∷ sorts ≡ s.Heap ∷ s.Ref ∷ further_keys p c = same_sorts_are (a ∷ sorts) (s.Heap ∷ s.Ref ∷ further_keys p c) (when_true _ (term_sort (value_sort p c)) x h) in
    record { column = c; is = refl; keys = cc }

record StoreSorts (p : Program) (o : Option Column) (sorts : List Sort) : Type 0 where
  column : Column
  is : o ≡ Some column
  keys : sorts ≡ s.Ref ∷ further_keys p column ++ term_sort (value_sort p column) ∷ []

store_sorts : (p : Program) (a : Sort) (sorts : List Sort) (x : Sort) (o : Option Column) → option_and_then (λ (c : Sorted). when (same_sorts (a ∷ sorts) (s.Heap ∷ c.keys ++ c.value ∷ [])) s.Heap) (option_map (sorts_of p) o) ≡ Some x → StoreSorts p o sorts
store_sorts p a sorts x None h = absurd (cc)
store_sorts p a sorts x (Some c) h =
    let same : a ∷ sorts ≡ s.Heap ∷ s.Ref ∷ further_keys p c ++ term_sort (value_sort p c) ∷ [] = same_sorts_are (a ∷ sorts) (s.Heap ∷ s.Ref ∷ further_keys p c ++ term_sort (value_sort p c) ∷ []) (when_true _ s.Heap x h) in
    record { column = c; is = refl; keys = cc }

-- The values of reads and stores.

-- the read of column C of the heap h at the keys L, as a value
record ReadValue (p : Program) (v : ℕ → Value) (t : ℕ) (C : ℤ) (h : ℕ) (L : List ℕ) : Type 0 where
  c : Column
  is : column_at p C ≡ Some c
  o : ℕ
  ls : List ℕ
  keys : L ≡ o ∷ ls
  first : HasSort p s.Ref (v o)
  further : HaveSorts p (further_keys p c) (map v ls)
  value : v t ≡ PlainValue (heap (v h) (place_of c (map scalar (map v ls))) (reference (v o)))

-- the heap h with w stored in column D at the keys K, as a value
record StoreValue (p : Program) (v : ℕ → Value) (t : ℕ) (D : ℤ) (h : ℕ) (K : List ℕ) (w : ℕ) : Type 0 where
  d : Column
  is : column_at p D ≡ Some d
  o : ℕ
  ks : List ℕ
  keys : K ≡ o ∷ ks
  first : HasSort p s.Ref (v o)
  further : HaveSorts p (further_keys p d) (map v ks)
  held : HasSort p (term_sort (value_sort p d)) (v w)
  value : v t ≡ HeapValue (store_at (heap (v h)) (place_of d (map scalar (map v ks))) (reference (v o)) (scalar (v w)))

-- what is read and what is stored, where the equality has a sort
record ReadingValue (l : Language) (v : ℕ → Value) (terms : List Term) (read store : ℕ) (C : ℤ) (L : List ℕ) (D : ℤ) (h : ℕ) (K : List ℕ) (w x : ℕ) : Type 0 where
  reads : ReadValue l.program v read C store L
  stores : StoreValue l.program v store D h K w
  other : IsOfSomeSort l terms x

module _ (l : Language) (e : Env) (v : ℕ → Value) (terms : List Term) (env : IsEnv l.program e) (valued : IsValuation l e terms v) where
  read_keys : (C : ℤ) (h : ℕ) (t : ℕ) (L : List ℕ) (ss : List Sort) → IsRead terms t C h L → AreOfSorts l terms L ss → ReadSorts l.program (column_at l.program C) ss → ReadValue l.program v t C h L
  read_keys C h t [] [] g a r = absurd (let e = r.keys in cc)
  read_keys C h t [] (y ∷ ys) g a r = absurd a
  read_keys C h t (o ∷ ls) [] g a r = absurd a
  read_keys C h t (o ∷ ls) (y ∷ ys) g a r =
      let first : y ≡ s.Ref = (let e = r.keys in cc) in
      let further : ys ≡ further_keys l.program r.column = (let e = r.keys in cc) in
      record {
        c = r.column;
        is = r.is;
        o = o;
        ls = ls;
        keys = refl;
        first = subst (λ (s : Sort). HasSort l.program s (v o)) first (value_sorted l e v terms env valued o y a.0);
        further = subst (λ (ss : List Sort). HaveSorts l.program ss (map v ls)) further (all_sorted l e v terms env valued ls ys a.1);
        value = valued.term t (term k.Get C (h ∷ o ∷ ls)) g ∙ ap (λ c. read_in c (v h ∷ v o ∷ map v ls)) r.is;
      }

  read_by : (C : ℤ) (h : ℕ) (t : ℕ) (L : List ℕ) (y : Sort) (ss : List Sort) → IsRead terms t C h L → AreOfSorts l terms (h ∷ L) ss → sort_of k.Get C ss (column_sorts l.program) (quantified_sorts l) ≡ Some y → ReadValue l.program v t C h L
  read_by C h t L y [] g a f = absurd a
  read_by C h t L y (x ∷ ss) g a f =
      read_keys C h t L ss g a.1 (read_sorts l.program x ss y (column_at l.program C) (ap (λ c. option_and_then (λ (c : Sorted). when (same_sorts (x ∷ ss) (s.Heap ∷ c.keys)) c.value) c) (sym (entry_at l.program C)) ∙ f))

  read_value : (t : ℕ) (C : ℤ) (h : ℕ) (L : List ℕ) → IsRead terms t C h L → IsOfSomeSort l terms t → ReadValue l.program v t C h L
  read_value t C h L g q =
      let n = node_sorts l e v terms env valued t (term k.Get C (h ∷ L)) q.sort g q.is in
      read_by C h t L q.sort n.args g n.are n.gives

  store_keys : (D : ℤ) (h : ℕ) (t : ℕ) (K : List ℕ) (w : ℕ) (ss : List Sort) → IsStore terms t D h K w → AreOfSorts l terms (K ++ w ∷ []) ss → StoreSorts l.program (column_at l.program D) ss → StoreValue l.program v t D h K w
  store_keys D h t [] w [] g a r = absurd a
  store_keys D h t [] w (y ∷ []) g a r = absurd (let e = r.keys in let f : [] ≡ further_keys l.program r.column ++ term_sort (value_sort l.program r.column) ∷ [] = cc in no_end _ _ f)
  store_keys D h t [] w (y ∷ z ∷ ys) g a r = absurd a.1
  store_keys D h t (o ∷ ks) w [] g a r = absurd a
  store_keys D h t (o ∷ ks) w (y ∷ ys) g a r =
      let first : y ≡ s.Ref = (let e = r.keys in cc) in
      let more : ys ≡ further_keys l.program r.column ++ term_sort (value_sort l.program r.column) ∷ [] = (let e = r.keys in cc) in
      let p = split_end l terms ks w ys a.1 in
      let ends = same_ends p.0 (further_keys l.program r.column) p.1 (term_sort (value_sort l.program r.column)) (sym p.2 ∙ more) in
      record {
        d = r.column;
        is = r.is;
        o = o;
        ks = ks;
        keys = refl;
        first = subst (λ (s : Sort). HasSort l.program s (v o)) first (value_sorted l e v terms env valued o y a.0);
        further = subst (λ (ss : List Sort). HaveSorts l.program ss (map v ks)) ends.front (all_sorted l e v terms env valued ks p.0 p.3);
        held = subst (λ (s : Sort). HasSort l.program s (v w)) ends.end (value_sorted l e v terms env valued w p.1 p.4);
        value = valued.term t (term k.Set D (h ∷ o ∷ ks ++ w ∷ [])) g ∙ ap (λ c. store_in c (v h ∷ v o ∷ map v (ks ++ w ∷ []))) r.is ∙ ap (λ xs. store_in (Some r.column) (v h ∷ v o ∷ xs)) (map-append v ks (w ∷ [])) ∙ (λ i. HeapValue (store_at (heap (v h)) (place_of r.column (front_of (map v ks) (v w) i)) (reference (v o)) (end_of (map v ks) (v w) i)));
      }

  store_by : (D : ℤ) (h : ℕ) (t : ℕ) (K : List ℕ) (w : ℕ) (y : Sort) (ss : List Sort) → IsStore terms t D h K w → AreOfSorts l terms (h ∷ K ++ w ∷ []) ss → sort_of k.Set D ss (column_sorts l.program) (quantified_sorts l) ≡ Some y → StoreValue l.program v t D h K w
  store_by D h t K w y [] g a f = absurd a
  store_by D h t K w y (x ∷ ss) g a f =
      store_keys D h t K w ss g a.1 (store_sorts l.program x ss y (column_at l.program D) (ap (λ c. option_and_then (λ (c : Sorted). when (same_sorts (x ∷ ss) (s.Heap ∷ c.keys ++ c.value ∷ [])) s.Heap) c) (sym (entry_at l.program D)) ∙ f))

  store_value : (t : ℕ) (D : ℤ) (h : ℕ) (K : List ℕ) (w : ℕ) → IsStore terms t D h K w → IsOfSomeSort l terms t → StoreValue l.program v t D h K w
  store_value t D h K w g q =
      let n = node_sorts l e v terms env valued t (term k.Set D (h ∷ K ++ w ∷ [])) q.sort g q.is in
      store_by D h t K w q.sort n.args g n.are n.gives

  -- what a store holds there
  read_of_store : (read store : ℕ) (C : ℤ) (L : List ℕ) (D : ℤ) (h : ℕ) (K : List ℕ) (w : ℕ) (r : ReadValue l.program v read C store L) (s : StoreValue l.program v store D h K w) → v read ≡ PlainValue (store_at (heap (v h)) (place_of s.d (map scalar (map v s.ks))) (reference (v s.o)) (scalar (v w)) (place_of r.c (map scalar (map v r.ls))) (reference (v r.o)))
  read_of_store read store C L D h K w r s = r.value ∙ ap (λ x. PlainValue (heap x (place_of r.c (map scalar (map v r.ls))) (reference (v r.o)))) s.value

  back_value : (read store : ℕ) (C : ℤ) (h : ℕ) (K : List ℕ) (w : ℕ) → ReadValue l.program v read C store K → StoreValue l.program v store C h K w → v read ≡ v w
  back_value read store C h K w r s =
      let column : r.c ≡ s.d = (let e : Some r.c ≡ Some s.d = sym r.is ∙ s.is in cc) in
      let keys : r.o ∷ r.ls ≡ s.o ∷ s.ks = sym r.keys ∙ s.keys in
      let first : r.o ≡ s.o = cc in
      let further : r.ls ≡ s.ks = cc in
      let there : Place = place_of s.d (map scalar (map v s.ks)) in
      read_of_store read store C K C h K w r s
      ∙ (λ i. PlainValue (store_at (heap (v h)) there (reference (v s.o)) (scalar (v w)) (place_of (column i) (map scalar (map v (further i)))) (reference (v (first i)))))
      ∙ ap PlainValue (read_there (heap (v h)) there (reference (v s.o)) (scalar (v w)))
      ∙ sym (plain_one l.program (value_sort l.program s.d) (v w) s.held)

  -- elsewhere it is as it was
  kept_value : (read store x : ℕ) (C : ℤ) (L : List ℕ) (D : ℤ) (h : ℕ) (K : List ℕ) (w : ℕ) (r : ReadValue l.program v read C store L) (s : StoreValue l.program v store D h K w) → ReadValue l.program v x C h L → (place_of r.c (map scalar (map v r.ls)) ≡ place_of s.d (map scalar (map v s.ks)) → reference (v r.o) ≡ reference (v s.o) → ⊥) → v read ≡ v x
  kept_value read store x C L D h K w r s q apart =
      let column : r.c ≡ q.c = (let e : Some r.c ≡ Some q.c = sym r.is ∙ q.is in cc) in
      let keys : r.o ∷ r.ls ≡ q.o ∷ q.ls = sym r.keys ∙ q.keys in
      let first : r.o ≡ q.o = cc in
      let further : r.ls ≡ q.ls = cc in
      read_of_store read store C L D h K w r s
      ∙ ap PlainValue (read_elsewhere (heap (v h)) (place_of s.d (map scalar (map v s.ks))) (place_of r.c (map scalar (map v r.ls))) (reference (v s.o)) (reference (v r.o)) (scalar (v w)) apart)
      ∙ (λ i. PlainValue (heap (v h) (place_of (column i) (map scalar (map v (further i)))) (reference (v (first i)))))
      ∙ sym q.value

  -- keys at one place are equal
  one_place : (C : ℤ) (read store h : ℕ) (L K : List ℕ) (w : ℕ) (r : ReadValue l.program v read C store L) (s : StoreValue l.program v store C h K w) → place_of r.c (map scalar (map v r.ls)) ≡ place_of s.d (map scalar (map v s.ks)) → reference (v r.o) ≡ reference (v s.o) → map v L ≡ map v K
  one_place C read store h L K w r s place same =
      let column : r.c ≡ s.d = (let e : Some r.c ≡ Some s.d = sym r.is ∙ s.is in cc) in
      let at : place_of s.d (map scalar (map v r.ls)) ≡ place_of s.d (map scalar (map v s.ks)) = ap (λ c. place_of c (map scalar (map v r.ls))) (sym column) ∙ place in
      let further : map v r.ls ≡ map v s.ks = keys_of_place l.program s.d (map v r.ls) (map v s.ks) (subst (λ (c : Column). HaveSorts l.program (further_keys l.program c) (map v r.ls)) column r.further) s.further at in
      let first : v r.o ≡ v s.o = same_reference l.program (v r.o) (v s.o) r.first s.first same in
      ap (map v) r.keys ∙ (λ i. first i ∷ further i) ∙ ap (map v) (sym s.keys)

  at_key : (K : List ℕ) (i a : ℕ) → slice_get K i ≡ Some a → slice_get (map v K) i ≡ Some (v a)
  at_key [] i a h = absurd (cc)
  at_key (x ∷ K) zero a h = let e : x ≡ a = cc in ap (λ x. Some (v x)) e
  at_key (x ∷ K) (suc i) a h = at_key K i a h

  same_key : (L K : List ℕ) (i a b : ℕ) → map v L ≡ map v K → slice_get K i ≡ Some a → slice_get L i ≡ Some b → v a ≡ v b
  same_key L K i a b same g h =
      let e : Some (v a) ≡ Some (v b) = sym (at_key K i a g) ∙ ap (λ xs. slice_get xs i) (sym same) ∙ at_key L i b h in
      cc

  module _ (sorts : List (Option Sort)) (suits : AreSortsOf l terms sorts) where
    reading_value : (t : ℕ) (C : ℤ) (L : List ℕ) (D : ℤ) (h : ℕ) (K : List ℕ) (w x : ℕ) (m : IsReadOfStore sorts terms t C L D h K w x) → ReadingValue l v terms m.read m.store C L D h K w x
    reading_value t C L D h K w x m =
        let both = sides_sorted l e v terms env valued t m.read x m.sides_are (by_sorts l terms sorts suits t m.sorted) in
        record {
          reads = read_value m.read C m.store L m.is_read both.0;
          stores = store_value m.store D h K w m.is_store (first_sorted l e v terms env valued m.read k.Get C m.store L m.is_read both.0);
          other = both.1;
        }

    back_true : (numbers : List ℤ) (clause : List Literal) → IsReadBack sorts terms numbers clause → clause_true v clause ≡ true
    back_true numbers clause row =
        let m = row.reads in
        let a = reading_value row.t row.C row.K row.C row.h row.K row.v row.v m in
        let same = back_value m.read m.store row.C row.h row.K row.v a.reads a.stores in
        let t : truth (v row.t) ≡ true = (says l e v terms row.t m.read row.v valued m.sides_are).holds same in
        rw (row.given, t) refl

    column_true : (numbers : List ℤ) (clause : List Literal) → IsOtherColumn sorts terms numbers clause → clause_true v clause ≡ true
    column_true numbers clause row =
        let m = row.reads in
        let a = reading_value row.t row.C row.L row.D row.h row.K row.v row.x m in
        let r = a.reads in
        let s = a.stores in
        let apart : place_of r.c (map scalar (map v r.ls)) ≡ place_of s.d (map scalar (map v s.ks)) → reference (v r.o) ≡ reference (v s.o) → ⊥ =
        (λ place same. row.unlike (one_number l.program row.C row.D r.c r.is (s.is ∙ ap Some (sym (same_column r.c s.d (map scalar (map v r.ls)) (map scalar (map v s.ks)) place))))) in
        let same = kept_value m.read m.store row.x row.C row.L row.D row.h row.K row.v r s (read_value row.x row.C row.h row.L row.is_read a.other) apart in
        let t : truth (v row.t) ≡ true = (says l e v terms row.t m.read row.x valued m.sides_are).holds same in
        rw (row.given, t) refl

    key_true : (numbers : List ℤ) (clause : List Literal) → IsOtherKey sorts terms numbers clause → clause_true v clause ≡ true
    key_true numbers clause row =
        let m = row.reads in
        let a = reading_value row.t row.C row.L row.C row.h row.K row.v row.x m in
        let r = a.reads in
        let s = a.stores in
        let u = says l e v terms row.u row.a row.b valued row.keys_equal in
        let unchanged : truth (v row.u) ≡ false → truth (v row.t) ≡ true =
        (λ differ. (says l e v terms row.t m.read row.x valued m.sides_are).holds (kept_value m.read m.store row.x row.C row.L row.C row.h row.K row.v r s (read_value row.x row.C row.h row.L row.is_read a.other) (λ place same. absurd (let f : truth (v row.u) ≡ true = u.holds (same_key row.L row.K (row.i - 1) row.a row.b (one_place row.C m.read m.store row.h row.L row.K row.v r s place same) row.stored_key row.read_key) in cc)))) in
        rw row.given (either (truth (v row.u)) (truth (v row.t)) unchanged)

pub map_sound : (language : Language) (sorts : List (Option Sort)) (terms : List Term) → AreSortsOf language terms sorts → (root : Option ℕ) (clauses : List (List Literal)) (below : ℕ) (numbers : List ℤ) (clause : List Literal) → IsMap sorts terms numbers clause → IsConsequence language terms root clauses below clause
map_sound language sorts terms suits root clauses below numbers clause row e v env valued hold =
    elim row [
      | inl r ↦ back_true language e v terms env valued sorts suits numbers clause r
      | inr (inl r) ↦ key_true language e v terms env valued sorts suits numbers clause r
      | inr (inr r) ↦ column_true language e v terms env valued sorts suits numbers clause r
    ]
