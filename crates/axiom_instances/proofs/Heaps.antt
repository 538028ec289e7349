-- The axioms of references and of well-formed heaps are true.
use Rattle.std.proofs.Common.{◌≡◌, ℕ, ◌==◌, ◌≤◌, Bool, true, false, not, ◌&&◌, ◌||◌, inl, inr, List, [], ◌∷◌, length, ℤ, pos, ◌≤ℤ◌, Option, Some, refl, sym, ap, ◌∙◌, subst, arith, eq-eqb}
use Rattle.std.proofs.lemmas.Int.{ints}
use Rattle.std.proofs.lemmas.Bool.{and_parts, and_from, or_cases, or_left, eqb-true, both_ways}
use Rattle.object_types.specs.declared.references.Ref.{Ref}
use Rattle.object_types.specs.declared.records.Mode.TheVariants.{Absent}
use Rattle.object_types.specs.References.{null as null_ref, is_null, same_ref, is_thread, is_claim, is_reference}
use Rattle.object_types.specs.Sets.{is_in}
use Rattle.object_types.specs.Heap.{Heap, Record, nothing, closed_in}
use Rattle.method.specs.declared.program.Program.{Program}
use Rattle.method.proofs.Global.{same_ref_is, same_ref_self, test_cases}
use Rattle.int_ranges.specs.Ranges.{least_of, greatest_of}
use Rattle.int_ranges.specs.declared.ctype.CType.TheVariants.{Int as IntType, Unsigned, LongLong, UnsignedLongLong}
use Rattle.std.specs.Prelude.{int_le}
use Rattle.object_types.specs.declared.values.Value.{Value as Scalar}
use Rattle.object_types.specs.declared.values.Value.TheVariants.{Int, Ref as Refers}
use Rattle.object_types.specs.Values.{or_zero}
use Rattle.method.specs.declared.program.DeclaredType.{DeclaredType}
use Rattle.method.specs.declared.program.DeclaredType.TheVariants.{Integer, Pointer, Object, Claim}
use Rattle.term_meaning.specs.Columns.{Column, Modes, Owners, Counts, OwnedSets, ClaimedSets, Field, Shape}
use Rattle.term_meaning.specs.Meaning.{PlainValue, column_at}
use Rattle.axiom_instances.specs.Terms.{range_facts, get, trees}
use Rattle.axiom_instances.specs.Axioms.{type_of_column}
use Rattle.method.specs.Tables.{is_claimable, in_type, zero_of as zero_of_type, type_of_field, is_field_of, read}
use Rattle.method.specs.WellFormed.{WellFormed, IsCount, claims_now}
use Rattle.term_meaning.specs.Meaning.{Value, Env, IsEnv, ref_value, Language}
use Rattle.terms.specs.Formula.{Formula}
use Rattle.axiom_instances.specs.Axioms.{axiom_3a, axiom_3b, axiom_3c, axiom_3d, axiom_5, axiom_6a, axiom_6b, axiom_6c, axiom_7a, axiom_7b, axiom_8, axiom_9, axiom_10, axiom_11, axiom_12, axiom_28a, axiom_28b, is_type}
use Rattle.axiom_instances.proofs.Kit.{HaveAll, get_has, Has, Holds, RowHolds, imp_holds, both_given, both_hold, either_given, left_holds, right_holds, no_holds, eq_holds, le_holds, num_has, gives_holds, fits_hold, needs_holds, number_holds, heap_holds, ref_holds, column_holds}
use Rattle.axiom_instances.proofs.Facts.{WellFormedAt, owner_is, count_is, absent_given, freed_given, member_holds, no_member_holds, not_listed_holds, typ_has, null_has, type_given, type_holds, sys_given, good_given, sys_holds, closed_given, closed_holds, open_given, mode_holds, count_holds, owner_holds, member_given, listed_given}

pub not_negative : (n : ℕ) → pos 0 ≤ℤ pos n
not_negative n = omega (arith, ints)

pub null_by_type : (r : Ref) → is_reference r ≡ true → r.ty ≡ 0 → r ≡ null_ref
null_by_type r h e = λ i. record { ty = e i; serial = eqb-true r.serial 0 (by_type r.ty e h) i }
  where
    by_type : (ty : ℕ) → ty ≡ 0 → (not (ty == 0) || (r.serial == 0)) ≡ true → (r.serial == 0) ≡ true
    by_type ty e h = ap (λ ty. not (ty == 0) || (r.serial == 0)) (sym e) ∙ h

not_in_none : (q : Ref) → is_in q [] ≡ false
unfolding is_in
not_in_none q = refl

-- what nothing holds
pub nothing_owned : (q : Ref) (d : Record) → d ≡ nothing → is_in q d.owned ≡ false
nothing_owned q d same = ap (λ (d : Record). is_in q d.owned) same ∙ not_in_none q

pub nothing_listed : (q : Ref) (d : Record) → d ≡ nothing → is_in q d.listed ≡ false
nothing_listed q d same = ap (λ (d : Record). is_in q d.listed) same ∙ not_in_none q

-- What is counted.

some_in : (q : Ref) (xs : List Ref) → is_in q xs ≡ true → 1 ≤ length xs
unfolding is_in
some_in q [] h = absurd (cc)
some_in q (x ∷ xs) h = omega arith

first_in : (x : Ref) (xs : List Ref) → is_in x (x ∷ xs) ≡ true
unfolding is_in
first_in x xs = or_left (same_ref x x) (is_in x xs) (same_ref_self x)

counted : (passes : Ref → Bool) (n : ℕ) (c : Ref) → IsCount passes n → passes c ≡ true → 1 ≤ n
counted passes n c count h = let l : 1 ≤ length count.which = some_in c count.which (count.each c ∙ h) in subst (λ m. 1 ≤ m) count.many l

none_counted : (passes : Ref → Bool) (n : ℕ) → IsCount passes n → ((c : Ref) → passes c ≡ true → ⊥) → n ≡ 0
none_counted passes n count fails = sym count.many ∙ by_list count.which (λ c h. fails c (sym (count.each c) ∙ h))
  where
    by_list : (xs : List Ref) → ((c : Ref) → is_in c xs ≡ true → ⊥) → length xs ≡ 0
    by_list [] h = refl
    by_list (x ∷ xs) h = absurd (h x (first_in x xs))

at_least_one : (n : ℕ) → 1 ≤ n → pos 1 ≤ℤ pos n
at_least_one n h = omega (arith, ints)

pub int_le_is : (a b : ℤ) → int_le a b ≡ true → a ≤ℤ b
int_le_is a b h = grind (arith, ints)

-- what lists something is a claim
pub claim_lists : (h : Heap) (r t : Ref) → (is_claim r ≡ false → ((h.get r).listed ≡ []) × ((h.get r).shapes ≡ [])) → is_in t (h.get r).listed ≡ true → is_claim r ≡ true
claim_lists h r t alone now = elim (test_cases (is_claim r)) [
  | inl c ↦ c
  | inr f ↦ absurd (both_ways _ (ap (λ xs. is_in t xs) (alone f).0 ∙ not_in_none t) now)
]

pub not_true : (b : Bool) → not b ≡ true → b ≡ true → ⊥
not_true true h k = cc
not_true false h k = cc

zero_in_type : (ty : DeclaredType) → in_type ty (zero_of_type ty) ≡ true
unfolding in_type same_ref
zero_in_type (Integer IntType) = refl
zero_in_type (Integer Unsigned) = refl
zero_in_type (Integer LongLong) = refl
zero_in_type (Integer UnsignedLongLong) = refl
zero_in_type (Pointer n) = refl
zero_in_type Object = refl
zero_in_type Claim = refl

-- each field is in the range of its type, at any reference
pub field_in_type : (p : Program) (h : Heap) → WellFormed p h → (r : Ref) (f : ℕ) → in_type (type_of_field p f) (read p h r f) ≡ true
field_in_type p h w r f = elim (test_cases (is_field_of p f r.ty)) [
  | inl own ↦ w.fields r f own
  | inr other ↦ ap (λ v. in_type (type_of_field p f) (or_zero (zero_of_type (type_of_field p f)) v)) (w.heap_of.own_fields r f other) ∙ zero_in_type (type_of_field p f)
]

pub thread_type : (r : Ref) → is_thread r ≡ true → r.ty ≡ 1
thread_type r h = eqb-true r.ty 1 h

module _ {l : Language} {e : Env} where
  -- a value of a type meets its range facts
  pub range_holds : (ty : DeclaredType) (x : Formula) (v : Scalar) → Has l e x (PlainValue v) → in_type ty v ≡ true → Holds l e (range_facts ty x)
  unfolding in_type
  range_holds (Integer c) x (Int z) b h =
      let t = and_parts (int_le (least_of c) z) (int_le z (greatest_of c)) h in
      both_hold (le_holds (num_has (least_of c)) b (int_le_is (least_of c) z t.0)) (le_holds b (num_has (greatest_of c)) (int_le_is z (greatest_of c) t.1))
  range_holds (Integer c) x (Refers r) b h = absurd (cc)
  range_holds (Pointer n) x (Int z) b h = absurd (cc)
  range_holds (Pointer n) x (Refers r) b h = elim (or_cases (is_null r) (r.ty == n) h) [
    | inl z ↦ left_holds (eq_holds b null_has (ap ref_value (same_ref_is r null_ref z)))
    | inr t ↦ right_holds (type_holds b (eqb-true r.ty n t))
  ]
  range_holds Object x (Int z) b h = absurd (cc)
  range_holds Object x (Refers r) b h = no_holds (λ g. not_true (is_thread r) (and_parts (is_reference r) (not (is_thread r)) h).1 (eq-eqb r.ty 1 (type_given b g)))
  range_holds Claim x (Int z) b h = absurd (cc)
  range_holds Claim x (Refers r) b h = elim (or_cases (is_null r) (is_claim r) h) [
    | inl z ↦ left_holds (eq_holds b null_has (ap ref_value (same_ref_is r null_ref z)))
    | inr t ↦ right_holds (type_holds b (eqb-true r.ty 2 t))
  ]

module _ {l : Language} {e : Env} (env : IsEnv l.program e) (tree : ℕ → Option Formula) where
  pub holds_3a : RowHolds l e (axiom_3a l tree)
  holds_3a = gives_holds (type_holds null_has refl)

  pub holds_3b : RowHolds l e (axiom_3b l tree)
  holds_3b = ref_holds env tree (λ o r b i. gives_holds (imp_holds (λ g. eq_holds b null_has (ap ref_value (null_by_type r i (type_given b g))))))

  pub holds_3c : RowHolds l e (axiom_3c l tree)
  holds_3c = gives_holds (type_holds {r = e.me} (record { value = ([], refl, refl) }) (thread_type e.me env.me))

  pub holds_3d : RowHolds l e (axiom_3d l tree)
  holds_3d = ref_holds env tree (λ o r b i. gives_holds (le_holds (num_has (pos 0)) (typ_has b) (not_negative r.ty)))

  pub holds_5 : RowHolds l e (axiom_5 l tree)
  holds_5 = heap_holds env tree (λ f x a. gives_holds (imp_holds (λ g. let s = good_given a g in sys_holds s.shown s.good.well_formed)))

  pub holds_6a : RowHolds l e (axiom_6a l tree)
  holds_6a = heap_holds env tree (λ f x a. ref_holds env tree (λ o r b i. gives_holds (imp_holds (λ g.
      let s = sys_given a g in
      let c = s.well_formed.count r in
      le_holds (num_has (pos 0)) (count_is s.shown b) (subst (λ n. pos 0 ≤ℤ n) (sym c.1) (not_negative c.0))))))

  pub holds_6b : RowHolds l e (axiom_6b l tree)
  holds_6b = heap_holds env tree (λ f x a. gives_holds (imp_holds (λ g. let s = sys_given a g in mode_holds s.shown null_has Absent s.well_formed.no_null)))

  pub holds_6c : RowHolds l e (axiom_6c l tree)
  holds_6c = heap_holds env tree (λ f x a. ref_holds env tree (λ o r b i. gives_holds (imp_holds (λ g.
      let p = both_given g in
      let s = sys_given a p.0 in
      mode_holds s.shown b Absent (s.well_formed.no_threads r (eq-eqb r.ty 1 (type_given b p.1)))))))

  pub holds_7a : RowHolds l e (axiom_7a l tree)
  holds_7a = heap_holds env tree (λ f x a. ref_holds env tree (λ o r b i. gives_holds (imp_holds (λ g.
      let p = both_given g in
      let s = sys_given a p.0 in
      let w = s.well_formed.opened r (open_given s.shown b p.1) in
      both_hold (type_holds (owner_is s.shown b) (thread_type (s.heap.get r).owner w.0)) (count_holds s.shown b w.1)))))

  pub holds_7b : RowHolds l e (axiom_7b l tree)
  holds_7b = heap_holds env tree (λ f x a. ref_holds env tree (λ o r b i. gives_holds (imp_holds (λ g.
      let p = both_given g in
      let s = sys_given a p.0 in
      let w : ((s.heap.get r).owner ≡ null_ref) × ((s.heap.get r).count ≡ pos 0) = elim (either_given p.1) [
        | inl m ↦ (let n = s.well_formed.absent r (absent_given s.shown b m) in (ap (λ (c : Record). c.owner) n, ap (λ (c : Record). c.count) n))
        | inr m ↦ s.well_formed.freed r (freed_given s.shown b m)
      ] in
      both_hold (owner_holds s.shown b null_has w.0) (count_holds s.shown b w.1)))))

  pub holds_8 : RowHolds l e (axiom_8 l tree)
  holds_8 = heap_holds env tree (λ f x a. ref_holds env tree (λ o r b i. gives_holds (imp_holds (λ g.
      let p = both_given g in
      let s = sys_given a p.0 in
      let w : Ref = (s.heap.get r).owner in
      elim (or_cases (is_thread w) (closed_in s.heap w && is_in r (s.heap.get w).owned) (s.well_formed.owner r (closed_given s.shown b p.1))) [
        | inl t ↦ left_holds (type_holds (owner_is s.shown b) (thread_type w t))
        | inr m ↦ (let q = and_parts (closed_in s.heap w) (is_in r (s.heap.get w).owned) m in right_holds (both_hold (closed_holds s.shown (owner_is s.shown b) q.0) (member_holds s.shown (owner_is s.shown b) b q.1)))
      ]))))

  pub holds_9 : RowHolds l e (axiom_9 l tree)
  holds_9 = heap_holds env tree (λ f x a. ref_holds env tree (λ o r b i. ref_holds env tree (λ q t c j. gives_holds (imp_holds (λ g.
      let p = both_given g in
      let s = sys_given a p.0 in
      let d = both_given p.1 in
      let m = s.well_formed.member r t (closed_given s.shown b d.0) (member_given s.shown b c d.1) in
      both_hold (closed_holds s.shown c m.0) (owner_holds s.shown c b m.1))))))

  pub holds_28a : RowHolds l e (axiom_28a l tree)
  holds_28a = heap_holds env tree (λ f x a. ref_holds env tree (λ o r b i. ref_holds env tree (λ q t c j. gives_holds (imp_holds (λ g.
      let p = both_given g in
      let s = sys_given a p.0 in
      no_member_holds s.shown b c (nothing_owned t (s.heap.get r) (s.well_formed.absent r (absent_given s.shown b p.1))))))))

  pub holds_28b : RowHolds l e (axiom_28b l tree)
  holds_28b = heap_holds env tree (λ f x a. ref_holds env tree (λ o r b i. ref_holds env tree (λ q t c j. gives_holds (imp_holds (λ g.
      let p = both_given g in
      let s = sys_given a p.0 in
      not_listed_holds s.shown b c (nothing_listed t (s.heap.get r) (s.well_formed.absent r (absent_given s.shown b p.1))))))))

  pub holds_10 : RowHolds l e (axiom_10 l tree)
  holds_10 = heap_holds env tree (λ f x a. ref_holds env tree (λ o r b i. ref_holds env tree (λ q t c j. gives_holds (imp_holds (λ g.
      let p = both_given g in
      let s = sys_given a p.0 in
      let d = both_given p.1 in
      let now : is_in t (s.heap.get r).listed ≡ true = listed_given s.shown b c d.1 in
      let claim : is_claim r ≡ true = claim_lists s.heap r t (s.well_formed.heap_of.claims_list r) now in
      let claims : claims_now s.heap t r ≡ true = and_from _ _ claim (and_from _ _ (closed_given s.shown b d.0) now) in
      let n = s.well_formed.count t in
      both_hold (type_holds b (eqb-true r.ty 2 claim)) (both_hold (closed_holds s.shown c (s.well_formed.listed r t claims).0) (le_holds (num_has (pos 1)) (count_is s.shown c) (subst (λ z. pos 1 ≤ℤ z) (sym n.1) (at_least_one n.0 (counted (claims_now s.heap t) n.0 r n.2 claims))))))))))

  pub holds_11 : RowHolds l e (axiom_11 l tree)
  holds_11 = heap_holds env tree (λ f x a. ref_holds env tree (λ o r b i. number_holds (λ ty. fits_hold (λ fit. gives_holds (imp_holds (λ g.
      let p = both_given g in
      let s = sys_given a p.0 in
      let n = s.well_formed.count r in
      let fixed : not (is_claimable l.program ty) ≡ true = (and_parts (is_type l.program ty) (not (is_claimable l.program ty)) fit).1 in
      let same : r.ty ≡ ty = type_given b p.1 in
      let zero : n.0 ≡ 0 = none_counted (claims_now s.heap r) n.0 n.2 (λ c claims. not_true (is_claimable l.program ty) fixed (ap (λ ty. is_claimable l.program ty) (sym same) ∙ (s.well_formed.listed c r claims).1)) in
      count_holds s.shown b (n.1 ∙ ap pos zero)))))))

  pub holds_12 : RowHolds l e (axiom_12 l tree)
  holds_12 = heap_holds env tree (λ f x a. ref_holds env tree (λ o r b i. column_holds env tree (λ n c ks vs is m sorted. needs_holds (λ ty t. gives_holds (imp_holds (λ g.
      let s = sys_given a g in
      by_column n c ks vs is m ty t f o r b s))))))
    where
      by_column : (n : ℕ) (c : Column) (ks : List Formula) (vs : List Value) → column_at l.program (pos n) ≡ Some c → HaveAll l e (trees ks) vs → (ty : DeclaredType) → type_of_column l.program c ≡ Some ty → (f o : Formula) (r : Ref) → Has l e o (ref_value r) → WellFormedAt l e f → Holds l e (range_facts ty (get n f o ks))
      by_column n (Field k) ks vs is m ty t f o r b s =
          let same : type_of_field l.program k ≡ ty = cc in
          subst (λ ty. Holds l e (range_facts ty (get n f o ks))) same (range_holds (type_of_field l.program k) (get n f o ks) (read l.program s.heap r k) (get_has ks (Field k) is s.shown.has b m) (field_in_type l.program s.heap s.well_formed r k))
      by_column n Modes ks vs is m ty t f o r b s = absurd (cc)
      by_column n Owners ks vs is m ty t f o r b s = absurd (cc)
      by_column n Counts ks vs is m ty t f o r b s = absurd (cc)
      by_column n OwnedSets ks vs is m ty t f o r b s = absurd (cc)
      by_column n ClaimedSets ks vs is m ty t f o r b s = absurd (cc)
      by_column n (Shape k) ks vs is m ty t f o r b s = absurd (cc)
