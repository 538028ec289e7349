-- The axioms of objects that are opened, closed and cleared are true.
use Rattle.std.proofs.Common.{◌≡◌, ℕ, Bool, true, false, not, cond, inl, inr, List, [], ◌∷◌, map, ℤ, pos, Option, Some, refl, ap, subst}
use Rattle.object_types.specs.declared.references.Ref.{Ref}
use Rattle.object_types.specs.declared.values.Value.{Value as Scalar}
use Rattle.object_types.specs.declared.values.Value.TheVariants.{Int, Ref as Refers}
use Rattle.object_types.specs.References.{same_ref}
use Rattle.method.proofs.Global.{same_ref_is, same_ref_self, test_cases}
use Rattle.terms.specs.declared.term.Kind.{Kind}
use Rattle.terms.specs.declared.term.Kind.TheVariants as k
use Rattle.terms.specs.declared.sort.Sort.{Sort}
use Rattle.terms.specs.declared.sort.Sort.TheVariants as s
use Rattle.terms.specs.Sorts.{sort_in as sort_of}
use Rattle.terms.specs.Formula.{Formula, Formulas, Node, Stop, With}
use Rattle.term_meaning.specs.Columns.{column_sorts, Column, Modes, Owners, Counts, OwnedSets, ClaimedSets, Field, Shape}
use Rattle.term_meaning.specs.RawHeaps.{RawHeap, Place, ModeAt, OwnerAt, CountAt, MemberAt, ClaimedAt, FieldAt, ShapeAt, place_of, with_members, clear_set, owns as owns_test, is_one}
use Rattle.term_meaning.specs.RawRelations.{is_content}
use Rattle.term_meaning.specs.Meaning.{Value, PlainValue, HeapValue, Env, IsEnv, scalar, ref_value, Language, sort_in, sorts_in, quantified_sorts}
use Rattle.term_meaning.proofs.Sorted.{HaveSorts, all_give_sorted, of_node, plain_is, firsts, third}
use Rattle.axiom_instances.specs.Fitting as fit
use Rattle.axiom_instances.specs.Fitting.{Row}
use Rattle.axiom_instances.specs.Terms.{kind_of, arguments_of, clear}
use Rattle.axiom_instances.specs.Axioms.{StatusChange, change_of, status_change, axiom_24a, axiom_24b, axiom_24c, axiom_24d, axiom_24e, axiom_24f, axiom_24g, axiom_24h, is_owned, is_content_column}
use Rattle.axiom_instances.proofs.Kit.{Has, RowHolds, one, more, node_has, holds_by, imp_holds, left_holds, right_holds, eq_given, eq_holds, num_has, get_has, gives_holds, fits_hold, needs_holds, sorted_holds, heap_holds, ref_holds, column_holds}
use Rattle.axiom_instances.proofs.Facts.{mode_has, owner_has, owns_has}

-- An opened or closed heap, with what its parts are.
record Changed (l : Language) (e : Env) (b : Formula) (c : StatusChange) : Type 0 where
  before : RawHeap
  object : Ref
  owner : Ref
  heap_is : Has l e c.heap (HeapValue before)
  object_is : Has l e c.object (ref_value object)
  owner_is : Has l e c.owner (ref_value owner)
  after : Has l e b (HeapValue (with_members c.mode owner before object))

-- which change a term is
data ChangeIs : Kind → Formulas → StatusChange → Type 0 where
  opening : (x o t : Formula) → ChangeIs k.Open (With x (With o (With t Stop))) (record { heap = x; object = o; mode = pos 1; owner = t })
  closing : (x o t : Formula) → ChangeIs k.Close (With x (With o (With t Stop))) (record { heap = x; object = o; mode = pos 2; owner = o })

change_is : (k : Kind) (fs : Formulas) (c : StatusChange) → change_of k fs ≡ Some c → ChangeIs k fs c
change_is k.Open (With x (With o (With t Stop))) c h =
    let same : record { heap = x; object = o; mode = pos 1; owner = t } ≡ c = cc in
    subst (λ c. ChangeIs k.Open (With x (With o (With t Stop))) c) same (opening x o t)
change_is k.Close (With x (With o (With t Stop))) c h =
    let same : record { heap = x; object = o; mode = pos 2; owner = o } ≡ c = cc in
    subst (λ c. ChangeIs k.Close (With x (With o (With t Stop))) c) same (closing x o t)
change_is _ _ c h = absurd (cc)

-- Reads of changed heaps.

mode_there : (m : ℤ) (w : Ref) (x : RawHeap) (o : Ref) → with_members m w x o ModeAt o ≡ Int m
mode_there m w x o = ap (λ b. cond b (Int m) (x ModeAt o)) (same_ref_self o)

mode_elsewhere : (m : ℤ) (w : Ref) (x : RawHeap) (o q : Ref) → same_ref q o ≡ false → with_members m w x o ModeAt q ≡ x ModeAt q
mode_elsewhere m w x o q h = ap (λ b. cond b (Int m) (x ModeAt q)) h

owner_is_by : (m : ℤ) (w : Ref) (x : RawHeap) (o q : Ref) (b : Bool) → owns_test x o q ≡ b → with_members m w x o OwnerAt q ≡ cond b (Refers w) (x OwnerAt q)
owner_is_by m w x o q b h = ap (λ b. cond b (Refers w) (x OwnerAt q)) h

pub content_place : (c : Column) (ks : List Scalar) → is_content_column c ≡ true → is_content (place_of c ks) ≡ true
content_place Modes ks h = absurd (cc)
content_place Owners ks h = absurd (cc)
content_place Counts ks h = refl
content_place OwnedSets ks h = refl
content_place ClaimedSets ks h = refl
content_place (Field f) ks h = refl
content_place (Shape n) ks h = refl

content_same : (m : ℤ) (w : Ref) (x : RawHeap) (o : Ref) (c : Place) (q : Ref) → is_content c ≡ true → with_members m w x o c q ≡ x c q
content_same m w x o ModeAt q h = absurd (cc)
content_same m w x o OwnerAt q h = absurd (cc)
content_same m w x o CountAt q h = refl
content_same m w x o (MemberAt r) q h = refl
content_same m w x o (ClaimedAt r) q h = refl
content_same m w x o (FieldAt f) q h = refl
content_same m w x o (ShapeAt n vs) q h = refl

cleared_there : (x : RawHeap) (o m : Ref) → clear_set x o (MemberAt m) o ≡ Int (pos 0)
cleared_there x o m = ap (λ b. cond b (Int (pos 0)) (x (MemberAt m) o)) (same_ref_self o)

cleared_elsewhere : (x : RawHeap) (o q m : Ref) → same_ref q o ≡ false → clear_set x o (MemberAt m) q ≡ x (MemberAt m) q
cleared_elsewhere x o q m h = ap (λ b. cond b (Int (pos 0)) (x (MemberAt m) q)) h

cleared_same : (x : RawHeap) (o : Ref) (c : Column) (q : Ref) (ks : List Scalar) → not (is_owned c) ≡ true → clear_set x o (place_of c ks) q ≡ x (place_of c ks) q
cleared_same x o Modes q ks h = refl
cleared_same x o Owners q ks h = refl
cleared_same x o Counts q ks h = refl
cleared_same x o OwnedSets q ks h = absurd (cc)
cleared_same x o ClaimedSets q ks h = refl
cleared_same x o (Field f) q ks h = refl
cleared_same x o (Shape n) q ks h = refl

module _ {l : Language} {e : Env} (env : IsEnv l.program e) (tree : ℕ → Option Formula) where
  args_sorted : (x o t : Formula) (k : Kind) (n : ℤ) → ((ss : List Sort) → sort_of k n ss (column_sorts l.program) (quantified_sorts l) ≡ Some s.Heap → ss ≡ s.Heap ∷ s.Ref ∷ s.Ref ∷ []) → sort_in l (Node k n (With x (With o (With t Stop)))) ≡ Some s.Heap → (vx vo vt : Value) → Has l e x vx → Has l e o vo → Has l e t vt → HaveSorts l.program (s.Heap ∷ s.Ref ∷ s.Ref ∷ []) (vx ∷ vo ∷ vt ∷ [])
  args_sorted x o t k n sorts sorted vx vo vt hx ho ht =
      let fs : Formulas = With x (With o (With t Stop)) in
      let w = of_node l e env k n (sorts_in l fs) s.Heap sorted in
      subst (λ ss. HaveSorts l.program ss (vx ∷ vo ∷ vt ∷ [])) (sorts w.0 w.2) (all_give_sorted l e env fs w.0 (vx ∷ vo ∷ vt ∷ []) w.1 (more hx (more ho (one ht))).values)

  by_change : {k : Kind} {n : ℤ} {fs : Formulas} {c : StatusChange} {row : Row} → ChangeIs k fs c → sort_in l (Node k n fs) ≡ Some s.Heap → (Changed l e (Node k n fs) c → RowHolds l e row) → RowHolds l e row
  by_change {n = n} (opening x o t) sorted f = record {
    each = λ ns g is. holds_by {f = x} (λ vx hx. holds_by {f = o} (λ vo ho. holds_by {f = t} (λ vt ht.
        let h = args_sorted x o t k.Open n (λ ss w. (plain_is n ss _ s.Heap s.Heap w).0) sorted vx vo vt hx ho ht in
        let two = firsts l.program s.Heap s.Ref (s.Ref ∷ []) (vx ∷ vo ∷ vt ∷ []) h in
        let last = third l.program s.Heap s.Ref s.Ref [] (vx ∷ vo ∷ vt ∷ []) h in
        let x_is : Has l e x (HeapValue two.first.0) = subst (λ v. Has l e x v) two.first.1 hx in
        let o_is : Has l e o (ref_value two.second.0) = subst (λ v. Has l e o v) two.second.1 ho in
        let t_is : Has l e t (ref_value last.0) = subst (λ v. Has l e t v) last.1 ht in
        (f (record { before = two.first.0; object = two.second.0; owner = last.0; heap_is = x_is; object_is = o_is; owner_is = t_is; after = node_has (more x_is (more o_is (one t_is))) refl })).each ns g is)));
  }
  by_change {n = n} (closing x o t) sorted f = record {
    each = λ ns g is. holds_by {f = x} (λ vx hx. holds_by {f = o} (λ vo ho. holds_by {f = t} (λ vt ht.
        let h = args_sorted x o t k.Close n (λ ss w. (plain_is n ss _ s.Heap s.Heap w).0) sorted vx vo vt hx ho ht in
        let two = firsts l.program s.Heap s.Ref (s.Ref ∷ []) (vx ∷ vo ∷ vt ∷ []) h in
        let x_is : Has l e x (HeapValue two.first.0) = subst (λ v. Has l e x v) two.first.1 hx in
        let o_is : Has l e o (ref_value two.second.0) = subst (λ v. Has l e o v) two.second.1 ho in
        (f (record { before = two.first.0; object = two.second.0; owner = two.second.0; heap_is = x_is; object_is = o_is; owner_is = o_is; after = node_has (more x_is (more o_is (one ht))) refl })).each ns g is)));
  }

  by_node : (b : Formula) (c : StatusChange) {row : Row} → sort_in l b ≡ Some s.Heap → change_of (kind_of b) (arguments_of b) ≡ Some c → (Changed l e b c → RowHolds l e row) → RowHolds l e row
  by_node (Node k n fs) c {row} sorted is f = by_change (change_is k fs c is) sorted f

  changed_holds : {row : Formula → StatusChange → Row} → ((b : Formula) (c : StatusChange) → Changed l e b c → RowHolds l e (row b c)) → RowHolds l e (status_change l tree row)
  unfolding fit.heap
  changed_holds {row} f = sorted_holds env tree s.Heap (λ b sorted. needs_holds (λ c is. by_node b c sorted is (f b c)))

  pub holds_24a : RowHolds l e (axiom_24a l tree)
  holds_24a = changed_holds (λ b c d. gives_holds (eq_holds (mode_has d.after d.object_is) (num_has c.mode) (ap PlainValue (mode_there c.mode d.owner d.before d.object))))

  pub holds_24b : RowHolds l e (axiom_24b l tree)
  holds_24b = changed_holds (λ b c d. ref_holds env tree (λ o r i j. gives_holds (elim (test_cases (same_ref r d.object)) [
    | inl same ↦ left_holds (eq_holds i d.object_is (ap ref_value (same_ref_is r d.object same)))
    | inr other ↦ right_holds (eq_holds (mode_has d.after i) (mode_has d.heap_is i) (ap PlainValue (mode_elsewhere c.mode d.owner d.before d.object r other)))
  ])))

  pub holds_24c : RowHolds l e (axiom_24c l tree)
  holds_24c = changed_holds (λ b c d. ref_holds env tree (λ o r i j. gives_holds (imp_holds (λ g.
      let m : owns_test d.before d.object r ≡ true = ap (λ v. is_one (scalar v)) (eq_given (owns_has d.heap_is d.object_is i) (num_has (pos 1)) g) in
      eq_holds (owner_has d.after i) d.owner_is (ap PlainValue (owner_is_by c.mode d.owner d.before d.object r true m))))))

  pub holds_24d : RowHolds l e (axiom_24d l tree)
  holds_24d = changed_holds (λ b c d. ref_holds env tree (λ o r i j. gives_holds (imp_holds (λ g.
      let m : owns_test d.before d.object r ≡ false = ap (λ v. is_one (scalar v)) (eq_given (owns_has d.heap_is d.object_is i) (num_has (pos 0)) g) in
      eq_holds (owner_has d.after i) (owner_has d.heap_is i) (ap PlainValue (owner_is_by c.mode d.owner d.before d.object r false m))))))

  pub holds_24e : RowHolds l e (axiom_24e l tree)
  holds_24e = changed_holds (λ b c d. ref_holds env tree (λ o r i j. column_holds env tree (λ n col ks vs is m sorted. fits_hold (λ content. gives_holds
      (eq_holds (get_has ks col is d.after i m) (get_has ks col is d.heap_is i m) (ap PlainValue (content_same c.mode d.owner d.before d.object (place_of col (map scalar vs)) r (content_place col (map scalar vs) content))))))))

  clear_has : {f o : Formula} {x : RawHeap} {r : Ref} → Has l e f (HeapValue x) → Has l e o (ref_value r) → Has l e (clear f o) (HeapValue (clear_set x r))
  clear_has {f} {o} {x} {r} a b = node_has (more a (one b)) refl

  pub holds_24f : RowHolds l e (axiom_24f l tree)
  holds_24f = heap_holds env tree (λ f x a. ref_holds env tree (λ o r b i. ref_holds env tree (λ q t c j. gives_holds
      (eq_holds (owns_has (clear_has a b) b c) (num_has (pos 0)) (ap PlainValue (cleared_there x r t))))))

  pub holds_24g : RowHolds l e (axiom_24g l tree)
  holds_24g = ref_holds env tree (λ q t c j. ref_holds env tree (λ o r b i. heap_holds env tree (λ f x a. ref_holds env tree (λ m u d n. gives_holds (elim (test_cases (same_ref t r)) [
    | inl same ↦ left_holds (eq_holds c b (ap ref_value (same_ref_is t r same)))
    | inr other ↦ right_holds (eq_holds (owns_has (clear_has a b) c d) (owns_has a c d) (ap PlainValue (cleared_elsewhere x r t u other)))
  ])))))

  pub holds_24h : RowHolds l e (axiom_24h l tree)
  holds_24h = heap_holds env tree (λ f x a. ref_holds env tree (λ o r b i. ref_holds env tree (λ q t c j. column_holds env tree (λ n col ks vs is m sorted. fits_hold (λ other. gives_holds
      (eq_holds (get_has ks col is (clear_has a b) c m) (get_has ks col is a c m) (ap PlainValue (cleared_same x r col t (map scalar vs) other))))))))
