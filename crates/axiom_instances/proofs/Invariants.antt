-- The axioms of invariants and of legal steps are true.
use Rattle.std.proofs.Common.{◌≡◌, ℕ, ◌-◌, nat_le, Bool, true, false, not, cond, ◌||◌, ◌⊎◌, inl, inr, List, [], ◌∷◌, map, pos, Option, Some, None, slice_get, IsTrue, refl, sym, ap, ◌∙◌, subst}
use Rattle.std.proofs.lemmas.Bool.{and_parts, and_from, or_cases, eqb-true, both_ways}
use Rattle.object_types.specs.declared.references.Ref.{Ref}
use Rattle.object_types.specs.declared.values.Value.{Value as Scalar}
use Rattle.object_types.specs.declared.values.Value.TheVariants.{Int, Ref as Refers}
use Rattle.object_types.specs.declared.shapes.Entry.{Entry}
use Rattle.object_types.specs.References.{is_claim}
use Rattle.object_types.specs.Values.{same_value, referent, says, or_zero}
use Rattle.object_types.specs.Sets.{is_in, every}
use Rattle.object_types.specs.Shapes.{has_entry, same_entry}
use Rattle.object_types.specs.Heap.{Heap, closed_in}
use Rattle.method.specs.declared.program.Program.{Program}
use Rattle.method.specs.Tables.{struct_of, type_of_field, zero_of, is_approved}
use Rattle.method.specs.SpecValue.{entry_holds, shape_holds}
use Rattle.method.specs.Invariants.{inv_holds, claim_holds, struct_holds, inv_scene, Inv}
use Rattle.method.specs.Legal.{Untouched, Legal, Kept}
use Rattle.method.specs.WellFormed.{WellFormedStep, have_sorts}
use Rattle.object_types.proofs.Orders.{value_order}
use Rattle.method.proofs.Global.{test_cases, same_entry_is, same_value_is}
use Rattle.method.specs.declared.program.Sort.{Sort as HoleSort}
use Rattle.method.specs.declared.program.Sort.TheVariants.{IntSort, RefSort}
use Rattle.terms.specs.Formula.{Formula}
use Rattle.term_meaning.specs.Columns.{Column, Modes, Owners, Counts, OwnedSets, ClaimedSets, Field, Shape, holes, further_keys, term_sort}
use Rattle.term_meaning.specs.RawHeaps.{RawHeap, Place, ModeAt, OwnerAt, CountAt, MemberAt, ClaimedAt, FieldAt, ShapeAt, place_of, raw, Shows, owner_at, count_at, closed as closed_test, is_one}
use Rattle.term_meaning.specs.RawRelations.{IsLegal, IsKept, IsTouched, IsUntouched, is_content}
use Rattle.term_meaning.specs.Meaning.{Value, PlainValue, HeapValue, Env, IsEnv, scalar, ref_value, Language, AllHolds, InvHolds, StructSays, ClaimSays, Says, If, invariant_of, IsFaithful, column_at}
use Rattle.term_meaning.specs.Filling.{fill, trees, IsLayered, speaks_from}
use Rattle.term_meaning.proofs.Values.{body_stable}
use Rattle.term_meaning.proofs.Filled.{says_true, true_says}
use Rattle.term_meaning.proofs.Sorted.{HasSort, HaveSorts, to_scalar}
use Rattle.term_meaning.proofs.Changes.{one_says}
use Rattle.axiom_instances.specs.Terms.{both, either, no, eq, num, inv, legal, kept, touched, is_closed, get}
use Rattle.axiom_instances.specs.Axioms.{axiom_13, axiom_14a, axiom_14b, axiom_15, axiom_23a, axiom_23b, axiom_23c, axiom_23d, axiom_23e, axiom_23f, axiom_23g, conjunct_of}
use Rattle.axiom_instances.proofs.Kit.{Has, HaveAll, Holds, Given, RowHolds, one, more, node_given, node_holds, imp_holds, both_given, either_given, no_given, eq_given, eq_holds, num_has, get_has, gives_holds, fits_hold, needs_holds, number_holds, heap_holds, ref_holds, column_holds}
use Rattle.axiom_instances.proofs.Facts.{Shown, GoodAt, shown, good_given, sys_holds, owner_has, count_has, closed_given, type_given, says_one}
use Rattle.axiom_instances.proofs.Status.{content_place}
use Rattle.axiom_instances.proofs.Stability.{closed_is, fixed_columns}

-- what holds of every entry holds of one that is there
every_has : (test : Entry → Bool) (e : Entry) (es : List Entry) → every test es ≡ true → has_entry e es ≡ true → test e ≡ true
every_has test e [] h m = absurd (cc)
every_has test e (d ∷ es) h m =
    let p = and_parts (test d) (every test es) h in
    elim (or_cases (same_entry e d) (has_entry e es) m) [
      | inl s ↦ ap test (same_entry_is e d s) ∙ p.0
      | inr n ↦ every_has test e es p.1 n
    ]

either_true : (a b : Bool) → (not a || b) ≡ true → a ≡ true → b ≡ true
either_true true b h k = h
either_true false b h k = absurd (cc)

-- The invariant by cases, at a heap.
claim_inv : (p : Program) (o : Ref) (h k : Heap) → is_claim o ≡ true → Inv p o h k → closed_in k o ≡ true → claim_holds p o k ≡ true
unfolding inv_holds
claim_inv p o h k c i d = either_true (closed_in k o) (claim_holds p o k) (ap (λ b. cond b (not (closed_in k o) || claim_holds p o k) (struct_holds p (struct_of p o.ty) (inv_scene o h k))) (sym c) ∙ i) d

struct_inv : (p : Program) (o : Ref) (h k : Heap) → is_claim o ≡ false → Inv p o h k → struct_holds p (struct_of p o.ty) (inv_scene o h k) ≡ true
unfolding inv_holds
struct_inv p o h k c i = ap (λ b. cond b (not (closed_in k o) || claim_holds p o k) (struct_holds p (struct_of p o.ty) (inv_scene o h k))) (sym c) ∙ i

-- What is untouched on heaps is so on their columns.
pub untouched_raw : (p : Program) (o : Ref) (h k : Heap) → Untouched p o h k → IsUntouched p o (raw p h) (raw p k)
untouched_raw p o h k u = record { content = content; status = closed_is p k o ∙ u.closed ∙ sym (closed_is p h o); counts = counts; approved = approved }
  where
    content : (c : Place) → IsTrue (is_content c) → raw p k c o ≡ raw p h c o
    content ModeAt h = absurd (cc)
    content OwnerAt h = absurd (cc)
    content CountAt h = ap Int u.count
    content (MemberAt q) h = ap (λ xs. says (is_in q xs)) u.owned
    content (ClaimedAt q) h = ap (λ xs. says (is_in q xs)) u.listed
    content (FieldAt f) h = ap (λ v. or_zero (zero_of (type_of_field p f)) v) (u.fields f)
    content (ShapeAt n vs) h = ap (λ es. says (has_entry (record { shape = n; values = vs }) es)) u.shapes

    counts : (q : Ref) → (owner_at (raw p h) q ≡ Refers o) ⊎ (owner_at (raw p k) q ≡ Refers o) → count_at (raw p k) q ≡ count_at (raw p h) q
    counts q (inl w) = ap Int (u.counts q (inl (ap referent w)))
    counts q (inr w) = ap Int (u.counts q (inr (ap referent w)))

    approved : (q : Ref) → (owner_at (raw p h) q ≡ Refers o) ⊎ (owner_at (raw p k) q ≡ Refers o) → (f : ℕ) → is_approved p f ≡ true → raw p k (FieldAt f) q ≡ raw p h (FieldAt f) q
    approved q (inl w) f n = ap (λ v. or_zero (zero_of (type_of_field p f)) v) ((u.approved q (inl (ap referent w))).fields f n)
    approved q (inr w) f n = ap (λ v. or_zero (zero_of (type_of_field p f)) v) ((u.approved q (inr (ap referent w))).fields f n)

-- scalars are the same or not
pub same_scalar : (a b : Scalar) → ((a ≡ b → ⊥) → ⊥) → a ≡ b
same_scalar a b h = elim (test_cases (same_value a b)) [
  | inl s ↦ same_value_is a b s
  | inr n ↦ absurd (h (λ e. both_ways _ n (itself a b e)))
]
  where
    itself : (a b : Scalar) → a ≡ b → same_value a b ≡ true
    itself a b e = subst (λ c. same_value a c ≡ true) e (value_order.itself a)

pub plain_one : (p : Program) (s : HoleSort) (x : Value) → HasSort p (term_sort s) x → x ≡ PlainValue (scalar x)
plain_one p IntSort x h = h.1 ∙ ap (λ x. PlainValue (scalar x)) (sym h.1)
plain_one p RefSort x h = h.1 ∙ ap (λ x. PlainValue (scalar x)) (sym h.1)

-- what was made with something is a claim
shapes_of_claim : (h : Heap) (r : Ref) (d : Entry) → (is_claim r ≡ false → ((h.get r).listed ≡ []) × ((h.get r).shapes ≡ [])) → has_entry d (h.get r).shapes ≡ true → is_claim r ≡ true
shapes_of_claim h r d alone now = elim (test_cases (is_claim r)) [
  | inl c ↦ c
  | inr f ↦ absurd (let none : false ≡ true = ap (λ es. has_entry d es) (sym (alone f).1) ∙ now in cc)
]

pub record StepAt (l : Language) (e : Env) (f g : Formula) : Type 0 where
  pub before : Heap
  pub after : Heap
  pub before_shown : Shown l e f before
  pub after_shown : Shown l e g after

by_bool : (b : Bool) (A B : Type 0) → (b ≡ true → A) → (b ≡ false → B) → If b A B
by_bool true A B f g = f refl
by_bool false A B f g = g refl

sorts_have : (p : Program) (ss : List _) (vs : List Value) → HaveSorts p (map term_sort ss) vs → have_sorts ss (map scalar vs) ≡ true
sorts_have p [] vs h = ap (λ vs. have_sorts [] (map scalar vs)) h
sorts_have p (s ∷ ss) vs h = ap (λ vs. have_sorts (s ∷ ss) (map scalar vs)) h.2 ∙ and_from _ _ (to_scalar p s h.0 h.3) (sorts_have p ss h.1 h.4)

module _ {l : Language} {e : Env} where
  pub legal_given : {f g : Formula} {x y : RawHeap} → Has l e f (HeapValue x) → Has l e g (HeapValue y) → Given l e (legal f g) → (s : StepAt l e f g) × Legal l.program s.before s.after
  legal_given {f} {g} {x} {y} a b p =
      let d = node_given (more a (one b)) p in
      let s : IsLegal l.program x y = d.1.yes d.2 in
      (record { before = s.0; after = s.1; before_shown = shown a s.2; after_shown = shown b s.3 }, s.4)

  pub kept_given : {f g : Formula} {x y : RawHeap} → Has l e f (HeapValue x) → Has l e g (HeapValue y) → Given l e (kept f g) → (s : StepAt l e f g) × Kept l.program s.before s.after
  kept_given {f} {g} {x} {y} a b p =
      let d = node_given (more a (one b)) p in
      let s : IsKept l.program x y = d.1.yes d.2 in
      (record { before = s.0; after = s.1; before_shown = shown a s.2; after_shown = shown b s.3 }, s.4)

module _ {l : Language} {e : Env} (env : IsEnv l.program e) (faithful : IsFaithful l) where
  -- the invariant of a heap's object, worked out on columns
  pub inv_says : (o : Ref) (h k : Heap) (x y : RawHeap) → Shows l.program h x → Shows l.program k y → Inv l.program o h k → InvHolds l e.me o x y
  inv_says o h k x y a b i = by_bool (is_claim o) (ClaimSays l e.me o y) (StructSays l e.me (invariant_of l o.ty) o x y) claim (λ c. (faithful.invariant e.me o h k x y env.me a b).0 (struct_inv l.program o h k c i))
    where
      claim : is_claim o ≡ true → ClaimSays l e.me o y
      claim c shut n f is vs sorts here =
          let now : closed_in k o ≡ true = sym (closed_is l.program k o) ∙ ap (λ x. closed_test x o) (sym b.is) ∙ shut in
          let entry : has_entry (record { shape = n; values = vs }) (k.get o).shapes ≡ true = sym (one_says _) ∙ ap (λ x. is_one (x (ShapeAt n vs) o)) (sym b.is) ∙ here in
          (faithful.conjunct e.me n f k y vs env.me b is sorts).0 (every_has (entry_holds l.program k) (record { shape = n; values = vs }) (k.get o).shapes (claim_inv l.program o h k c i now) entry)

  pub inv_shown : {f g o : Formula} {h k : Heap} {r : Ref} → Shown l e f h → Shown l e g k → Has l e o (ref_value r) → Inv l.program r h k → Holds l e (inv o f g)
  inv_shown {f} {g} {o} {h} {k} {r} a b c i = node_holds (more c (more a.has (one b.has))) (λ z m. m.holds (inv_says r h k (raw l.program h) (raw l.program k) (record { proper = a.proper; is = refl }) (record { proper = b.proper; is = refl }) i))

module _ {l : Language} {e : Env} (env : IsEnv l.program e) (layered : IsLayered l) (faithful : IsFaithful l) (tree : ℕ → Option Formula) where
  pub holds_13 : RowHolds l e (axiom_13 l tree)
  holds_13 = heap_holds env tree (λ f x a. ref_holds env tree (λ o r b i. gives_holds (imp_holds (λ p.
      let q = both_given p in
      let g = good_given a q.0 in
      inv_shown env faithful g.shown g.shown b (g.good.all r (closed_given g.shown b q.1))))))

  -- of a struct, the invariant on raw heaps is what its formula says
  struct_says : (o : Ref) (ty : ℕ) (f : Formula) (x y : RawHeap) → o.ty ≡ ty → is_claim o ≡ false → invariant_of l ty ≡ Some f → InvHolds l e.me o x y → Says l e.me f (ref_value o ∷ HeapValue x ∷ HeapValue y ∷ [])
  struct_says o ty f x y t c is h = by_option (invariant_of l o.ty) (ap (λ ty. invariant_of l ty) t ∙ is) (by_test (is_claim o) c h)
    where
      by_test : (b : Bool) → b ≡ false → If b (ClaimSays l e.me o y) (StructSays l e.me (invariant_of l o.ty) o x y) → StructSays l e.me (invariant_of l o.ty) o x y
      by_test true c h = absurd (cc)
      by_test false c h = h

      by_option : (i : Option Formula) → i ≡ Some f → StructSays l e.me i o x y → Says l e.me f (ref_value o ∷ HeapValue x ∷ HeapValue y ∷ [])
      by_option None is h = absurd (cc)
      by_option (Some g) is h = let same : g ≡ f = cc in subst (λ g. Says l e.me g (ref_value o ∷ HeapValue x ∷ HeapValue y ∷ [])) same h

  says_struct : (o : Ref) (ty : ℕ) (f : Formula) (x y : RawHeap) → o.ty ≡ ty → is_claim o ≡ false → invariant_of l ty ≡ Some f → Says l e.me f (ref_value o ∷ HeapValue x ∷ HeapValue y ∷ []) → InvHolds l e.me o x y
  says_struct o ty f x y t c is says = by_bool (is_claim o) _ _ (λ d. absurd (both_ways _ c d)) (λ d. by_option (invariant_of l o.ty) (ap (λ ty. invariant_of l ty) t ∙ is))
    where
      by_option : (i : Option Formula) → i ≡ Some f → StructSays l e.me i o x y
      by_option None is = tt
      by_option (Some g) is = let same : f ≡ g = cc in subst (λ g. Says l e.me g (ref_value o ∷ HeapValue x ∷ HeapValue y ∷ [])) same says

  -- a struct's number is none of a claim
  no_claim : (o : Ref) (ty : ℕ) (f : Formula) → o.ty ≡ ty → invariant_of l ty ≡ Some f → is_claim o ≡ false
  no_claim o ty f t is = elim (test_cases (is_claim o)) [
    | inl c ↦ absurd (none_of_two (ap (λ ty. invariant_of l ty) (sym (eqb-true o.ty 2 c) ∙ t) ∙ is))
    | inr n ↦ n
  ]
    where
      none_of_two : invariant_of l 2 ≡ Some f → ⊥
      none_of_two is = cc

  layered_invariant : (ty : ℕ) (f : Formula) → invariant_of l ty ≡ Some f → speaks_from 0 f ≡ true
  layered_invariant ty f is = by_test (nat_le 3 ty) is
    where
      by_test : (b : Bool) → cond b (slice_get l.invariants (ty - 3)) None ≡ Some f → speaks_from 0 f ≡ true
      by_test true is = layered.invariants (ty - 3) f is
      by_test false is = absurd (cc)

  -- an annotation's formula, with terms in its holes
  filled_holds : (f : Formula) (ts : List Formula) (vs : List Value) → speaks_from 0 f ≡ true → HaveAll l e (trees ts) vs → Says l e.me f vs → Holds l e (fill ts f)
  filled_holds f ts vs layer m says = record {
    always = λ y g. says_true l.program (AllHolds l e.me) (AllHolds l e.me) (InvHolds l e.me) e ts vs m.values 0 (λ n xs b. ((λ a. a), λ a. a)) (body_stable l.program e.me 0 l.quantified) f y layer says g;
  }

  filled_given : (f : Formula) (ts : List Formula) (vs : List Value) → speaks_from 0 f ≡ true → HaveAll l e (trees ts) vs → Given l e (fill ts f) → Says l e.me f vs
  filled_given f ts vs layer m g = true_says l.program (AllHolds l e.me) (AllHolds l e.me) (InvHolds l e.me) e ts vs m.values 0 (λ n xs b. ((λ a. a), λ a. a)) f g.value layer g.gives g.holds

  pub holds_14a : RowHolds l e (axiom_14a l tree)
  holds_14a = heap_holds env tree (λ f x a. heap_holds env tree (λ g y b. ref_holds env tree (λ o r c i. number_holds (λ ty. fits_hold (λ fit. needs_holds (λ v is. gives_holds (imp_holds (λ t. imp_holds (λ p.
      let same = type_given c t in
      let d = node_given (more c (more a (one b))) p in
      filled_holds v (o ∷ f ∷ g ∷ []) (ref_value r ∷ HeapValue x ∷ HeapValue y ∷ []) (layered_invariant ty v is) (more c (more a (one b))) (struct_says r ty v x y same (no_claim r ty v same is) is (d.1.yes d.2)))))))))))

  pub holds_14b : RowHolds l e (axiom_14b l tree)
  holds_14b = heap_holds env tree (λ f x a. heap_holds env tree (λ g y b. ref_holds env tree (λ o r c i. number_holds (λ ty. fits_hold (λ fit. needs_holds (λ v is. gives_holds (imp_holds (λ t. imp_holds (λ p.
      let same = type_given c t in
      let m : HaveAll l e (trees (o ∷ f ∷ g ∷ [])) (ref_value r ∷ HeapValue x ∷ HeapValue y ∷ []) = more c (more a (one b)) in
      node_holds m (λ z d. d.holds (says_struct r ty v x y same (no_claim r ty v same is) is (filled_given v (o ∷ f ∷ g ∷ []) (ref_value r ∷ HeapValue x ∷ HeapValue y ∷ []) (layered_invariant ty v is) m p))))))))))))

  pub holds_15 : RowHolds l e (axiom_15 l tree)
  holds_15 = heap_holds env tree (λ f x a. ref_holds env tree (λ o r c i. column_holds env tree (λ n col ks vs is m sorted. needs_holds (λ v conj. gives_holds (imp_holds (λ p. by_shape n col ks vs is m sorted v conj f o r c (good_given a (both_given p).0) (both_given p).1))))))
    where
      plain_again : (ss : List HoleSort) (vs : List Value) → HaveSorts l.program (map term_sort ss) vs → vs ≡ map PlainValue (map scalar vs)
      plain_again [] vs h = h ∙ ap (λ vs. map PlainValue (map scalar vs)) (sym h)
      plain_again (s ∷ ss) vs h = h.2 ∙ (λ i. plain_one l.program s h.0 h.3 i ∷ plain_again ss h.1 h.4 i) ∙ ap (λ vs. map PlainValue (map scalar vs)) (sym h.2)

      by_shape : (n : ℕ) (col : Column) (ks : List Formula) (vs : List Value) → column_at l.program (pos n) ≡ Some col → HaveAll l e (trees ks) vs → HaveSorts l.program (further_keys l.program col) vs → (v : Formula) → conjunct_of l col ≡ Some v → (f o : Formula) (r : Ref) → Has l e o (ref_value r) → GoodAt l e f → Given l e (both (is_closed f o) (eq (get n f o ks) (num (pos 1)))) → Holds l e (fill (f ∷ ks) v)
      by_shape n (Shape j) ks vs is m sorted v conj f o r c g p =
          let q = both_given p in
          let ss : List HoleSort = holes (slice_get l.program.shapes.items j) in
          let entry : has_entry (record { shape = j; values = map scalar vs }) (g.heap.get r).shapes ≡ true = says_one _ (eq_given (get_has ks (Shape j) is g.shown.has c m) (num_has (pos 1)) q.1) in
          let now : closed_in g.heap r ≡ true = closed_given g.shown c q.0 in
          let claim : is_claim r ≡ true = shapes_of_claim g.heap r (record { shape = j; values = map scalar vs }) (g.good.well_formed.heap_of.claims_list r) entry in
          let holds : shape_holds l.program (slice_get l.program.shapes.items j) g.heap (map scalar vs) ≡ true = every_has (entry_holds l.program g.heap) (record { shape = j; values = map scalar vs }) (g.heap.get r).shapes (claim_inv l.program r g.heap g.heap claim (g.good.all r now) now) entry in
          let says = (faithful.conjunct e.me j v g.heap (raw l.program g.heap) (map scalar vs) env.me (record { proper = g.shown.proper; is = refl }) conj (sorts_have l.program ss vs sorted)).0 holds in
          filled_holds v (f ∷ ks) (HeapValue (raw l.program g.heap) ∷ vs) (layered.conjuncts j v conj) (more g.shown.has m) (subst (λ vs. Says l e.me v (HeapValue (raw l.program g.heap) ∷ vs)) (sym (plain_again ss vs sorted)) says)
      by_shape n Modes ks vs is m sorted v conj f o r c g p = absurd (cc)
      by_shape n Owners ks vs is m sorted v conj f o r c g p = absurd (cc)
      by_shape n Counts ks vs is m sorted v conj f o r c g p = absurd (cc)
      by_shape n OwnedSets ks vs is m sorted v conj f o r c g p = absurd (cc)
      by_shape n ClaimedSets ks vs is m sorted v conj f o r c g p = absurd (cc)
      by_shape n (Field j) ks vs is m sorted v conj f o r c g p = absurd (cc)

  pub holds_23a : RowHolds l e (axiom_23a l tree)
  holds_23a = heap_holds env tree (λ f x a. heap_holds env tree (λ g y b. gives_holds (imp_holds (λ p. let s = legal_given a b p in sys_holds s.0.after_shown s.1.well_formed.after))))

  pub holds_23b : RowHolds l e (axiom_23b l tree)
  holds_23b = heap_holds env tree (λ f x a. heap_holds env tree (λ g y b. gives_holds (imp_holds (λ p. let s = kept_given a b p in sys_holds s.0.after_shown s.1.well_formed.after))))

  closed_either : {f g o : Formula} {r : Ref} (s : StepAt l e f g) → Has l e o (ref_value r) → Given l e (either (is_closed f o) (is_closed g o)) → (closed_in s.before r ≡ true) ⊎ (closed_in s.after r ≡ true)
  closed_either {f} {g} {o} {r} s c p = elim (either_given p) [
    | inl q ↦ inl (closed_given s.before_shown c q)
    | inr q ↦ inr (closed_given s.after_shown c q)
  ]

  pub holds_23c : RowHolds l e (axiom_23c l tree)
  holds_23c = heap_holds env tree (λ f x a. heap_holds env tree (λ g y b. ref_holds env tree (λ o r c i. gives_holds (imp_holds (λ p.
      let q = both_given p in
      let v = both_given q.1 in
      let s = legal_given a b q.0 in
      let d = node_given (more c (more s.0.before_shown.has (one s.0.after_shown.has))) v.0 in
      let t : IsTouched l.program r (raw l.program s.0.before) (raw l.program s.0.after) = d.1.yes d.2 in
      inv_shown env faithful s.0.before_shown s.0.after_shown c (s.1.touched r (closed_either s.0 c v.1) (λ u. t (untouched_raw l.program r s.0.before s.0.after u))))))))

  pub holds_23d : RowHolds l e (axiom_23d l tree)
  holds_23d = heap_holds env tree (λ f x a. heap_holds env tree (λ g y b. ref_holds env tree (λ o r c i. gives_holds (imp_holds (λ p.
      let q = both_given p in
      let s = kept_given a b q.0 in
      inv_shown env faithful s.0.before_shown s.0.after_shown c (s.1.all r (closed_either s.0 c q.1)))))))

  -- where it can't be touched
  pub untouched_given : {f g o : Formula} {r : Ref} {x y : RawHeap} → Has l e f (HeapValue x) → Has l e g (HeapValue y) → Has l e o (ref_value r) → Given l e (no (touched o f g)) → (IsUntouched l.program r x y → ⊥) → ⊥
  untouched_given {f} {g} {o} {r} {x} {y} a b c p t = no_given p (node_holds (more c (more a (one b))) (λ z m. m.holds t))

  pub holds_23e : RowHolds l e (axiom_23e l tree)
  holds_23e = ref_holds env tree (λ o r c i. heap_holds env tree (λ f x a. heap_holds env tree (λ g y b. column_holds env tree (λ n col ks vs is m sorted. fits_hold (λ fit. gives_holds (imp_holds (λ p.
      eq_holds (get_has ks col is b c m) (get_has ks col is a c m) (ap PlainValue (same_scalar _ _ (λ fails. untouched_given a b c p (λ u. fails (u.content (place_of col (map scalar vs)) (content_place col (map scalar vs) fit)))))))))))))

  pub holds_23f : RowHolds l e (axiom_23f l tree)
  holds_23f = ref_holds env tree (λ o r c i. heap_holds env tree (λ f x a. heap_holds env tree (λ g y b. ref_holds env tree (λ q s d j. gives_holds (imp_holds (λ p.
      let v = both_given p in
      let w : (owner_at x s ≡ Refers r) ⊎ (owner_at y s ≡ Refers r) = elim (either_given v.1) [
        | inl h ↦ inl (ap scalar (eq_given (owner_has a d) c h))
        | inr h ↦ inr (ap scalar (eq_given (owner_has b d) c h))
      ] in
      eq_holds (count_has b d) (count_has a d) (ap PlainValue (same_scalar _ _ (λ fails. untouched_given a b c v.0 (λ u. fails (u.counts s w)))))))))))

  pub holds_23g : RowHolds l e (axiom_23g l tree)
  holds_23g = heap_holds env tree (λ f x a. heap_holds env tree (λ g y b. ref_holds env tree (λ o r c i. number_holds (λ ty. column_holds env tree (λ n col ks vs is m sorted. fits_hold (λ fit. gives_holds (imp_holds (λ p.
      let q = both_given p in
      let v = both_given q.1 in
      let w = both_given v.1 in
      let s : (s : StepAt l e f g) × WellFormedStep l.program s.before s.after = elim (either_given q.0) [
        | inl h ↦ (let s = legal_given a b h in (s.0, s.1.well_formed))
        | inr h ↦ (let s = kept_given a b h in (s.0, s.1.well_formed))
      ] in
      eq_holds (get_has ks col is s.0.after_shown.has c m) (get_has ks col is s.0.before_shown.has c m) (ap PlainValue (fixed_columns l.program s.0.before s.0.after r ty col (map scalar vs) fit (type_given c w.1) (s.1.fixed r (closed_given s.0.before_shown c v.0) (closed_given s.0.after_shown c w.0))))))))))))
