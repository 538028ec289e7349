-- The axioms of rely, frame and the stable set are true.
use Rattle.std.proofs.Common.{◌≡◌, ℕ, Bool, true, false, not, inl, inr, List, [], ◌∷◌, map, pos, Option, refl, sym, ap, ◌∙◌, subst}
use Rattle.std.proofs.lemmas.Bool.{and_parts, or_from, both_ways}
use Rattle.object_types.specs.declared.references.Ref.{Ref}
use Rattle.object_types.specs.declared.values.Value.{Value as Scalar}
use Rattle.object_types.specs.declared.values.Value.TheVariants.{Int, Ref as Refers}
use Rattle.object_types.specs.declared.records.Mode.TheVariants.{Open}
use Rattle.object_types.specs.References.{same_ref, is_claim}
use Rattle.object_types.specs.Sets.{is_in}
use Rattle.object_types.specs.Values.{same_value}
use Rattle.object_types.specs.Heap.{Heap, Record, closed_in}
use Rattle.method.specs.Tables.{has_volatile_owns}
use Rattle.method.specs.Rely.{Rely, Frame}
use Rattle.method.proofs.Global.{same_ref_is, test_cases}
use Rattle.terms.specs.Formula.{Formula}
use Rattle.term_meaning.specs.RawHeaps.{RawHeap, ClaimedAt, place_of, raw, owner_at, owns as owns_test, closed as closed_test, is_one}
use Rattle.term_meaning.specs.RawRelations.{IsRely, IsFrame, IsInStableSet, IsIdle, root, claimed, member}
use Rattle.term_meaning.specs.Meaning.{PlainValue, HeapValue, Env, IsEnv, scalar, reference, ref_value, int_value, Language}
use Rattle.term_meaning.proofs.Changes.{one_says}
use Rattle.axiom_instances.specs.Terms.{trees, all_of, no, eq, rely, frame, stab, unwritable, owned_by}
use Rattle.axiom_instances.specs.Axioms.{axiom_16, axiom_17, axiom_18, axiom_19, axiom_20, axiom_21a, axiom_21b, axiom_21c, axiom_21d, axiom_22a, axiom_22b, axiom_22c, axiom_22d, axiom_22e, is_type}
use Rattle.axiom_instances.proofs.Kit.{Has, HaveAll, Holds, Given, RowHolds, one, none, more, node_given, node_holds, imp_holds, both_given, both_hold, no_holds, no_given, eq_given, eq_holds, num_has, get_has, gives_holds, fits_hold, number_holds, heap_holds, ref_holds, refs_hold, column_holds}
use Rattle.axiom_instances.proofs.Facts.{Shown, shown, good_given, good_holds, mode_has, owner_has, owns_has, lists_has, closed_given, closed_holds, open_given, mode_holds, count_is, owner_given, owner_holds, type_given}
use Rattle.axiom_instances.proofs.Heaps.{claim_lists}
use Rattle.axiom_instances.proofs.Stability.{same_by, mutable_by, wrapped_by, not_writable_by, own_in, own_out, frame_in, frame_out, stable_closed, same_columns, fixed_columns, false_from, closed_is}

pub record RelyAt (l : Language) (e : Env) (t : Ref) (f g : Formula) : Type 0 where
  pub before : Heap
  pub after : Heap
  pub before_shown : Shown l e f before
  pub after_shown : Shown l e g after
  pub rely : Rely l.program t before after

pub record FrameAt (l : Language) (e : Env) (t : Ref) (f g z : Formula) (w : List Ref) : Type 0 where
  pub before : Heap
  pub after : Heap
  pub entry : Heap
  pub before_shown : Shown l e f before
  pub after_shown : Shown l e g after
  pub entry_shown : Shown l e z entry
  pub frame : Frame l.program t before after entry w

pub references_back : (rs : List Ref) → map reference (map ref_value rs) ≡ rs
references_back [] = refl
references_back (r ∷ rs) = λ i. r ∷ references_back rs i

module _ {l : Language} {e : Env} where
  pub rely_given : {t f g : Formula} {T : Ref} {x y : RawHeap} → Has l e t (ref_value T) → Has l e f (HeapValue x) → Has l e g (HeapValue y) → Given l e (rely t f g) → RelyAt l e T f g
  rely_given {t} {f} {g} {T} {x} {y} a b c m =
      let d = node_given (more a (more b (one c))) m in
      let s : IsRely l.program T x y = d.1.yes d.2 in
      record { before = s.0; after = s.1; before_shown = shown b s.2; after_shown = shown c s.3; rely = s.4 }

  pub frame_given : (w : List Formula) (ws : List Ref) {t f g z : Formula} {T : Ref} {x y u : RawHeap} → Has l e t (ref_value T) → Has l e f (HeapValue x) → Has l e g (HeapValue y) → Has l e z (HeapValue u) → HaveAll l e (trees w) (map ref_value ws) → Given l e (frame t f g z w) → FrameAt l e T f g z ws
  frame_given w ws {t} {f} {g} {z} {T} {x} {y} {u} a b c d m n =
      let v = node_given (more a (more b (more c (more d m)))) n in
      let s : IsFrame l.program T x y u ws = subst (λ rs. IsFrame l.program T x y u rs) (references_back ws) (v.1.yes v.2) in
      record { before = s.0; after = s.1; entry = s.2; before_shown = shown b s.3; after_shown = shown c s.4; entry_shown = shown d s.5; frame = s.6 }

  -- the stable set, on any raw heaps
  stab_given : (w : List Formula) (ws : List Ref) {t f o z : Formula} {T r : Ref} {x u : RawHeap} → Has l e t (ref_value T) → Has l e f (HeapValue x) → Has l e o (ref_value r) → Has l e z (HeapValue u) → HaveAll l e (trees w) (map ref_value ws) → Given l e (stab t f o z w) → IsInStableSet l.program T x u ws r
  stab_given w ws {t} {f} {o} {z} {T} {r} {x} {u} a b c d m n =
      let v = node_given (more a (more b (more c (more d m)))) n in
      subst (λ rs. IsInStableSet l.program T x u rs r) (references_back ws) (v.1.yes v.2)

  stab_holds : (w : List Formula) (ws : List Ref) {t f o z : Formula} {T r : Ref} {x u : RawHeap} → Has l e t (ref_value T) → Has l e f (HeapValue x) → Has l e o (ref_value r) → Has l e z (HeapValue u) → HaveAll l e (trees w) (map ref_value ws) → IsInStableSet l.program T x u ws r → Holds l e (stab t f o z w)
  stab_holds w ws {t} {f} {o} {z} {T} {r} {x} {u} a b c d m s =
      node_holds (more a (more b (more c (more d m)))) (λ v n. n.holds (subst (λ rs. IsInStableSet l.program T x u rs r) (sym (references_back ws)) s))

  -- what spared says
  apart_given : (g o : Formula) (w : List Formula) (r : Ref) (ws : List Ref) → Has l e o (ref_value r) → HaveAll l e (trees w) (map ref_value ws) → Given l e (all_of (g ∷ map (λ x. no (eq o x)) w)) → Given l e g × (is_in r ws ≡ false)
  unfolding is_in
  apart_given g o [] r [] h m n = (n, refl)
  apart_given g o [] r (s ∷ ws) h m n = absurd (let f : ref_value s ∷ map ref_value ws ≡ [] = m.values in cc)
  apart_given g o (x ∷ w) r [] h m n = absurd (let f : [] ≡ m.values.0 ∷ m.values.1 = m.values.2 in cc)
  apart_given g o (x ∷ w) r (s ∷ ws) h m n =
      let f : ref_value s ∷ map ref_value ws ≡ m.values.0 ∷ m.values.1 = m.values.2 in
      let first : m.values.0 ≡ ref_value s = cc in
      let rest : m.values.1 ≡ map ref_value ws = cc in
      let p = both_given n in
      let x_is : Has l e x (ref_value s) = subst (λ v. Has l e x v) first (record { value = m.values.3 }) in
      let w_are : HaveAll l e (trees w) (map ref_value ws) = subst (λ vs. HaveAll l e (trees w) vs) rest (record { values = m.values.4 }) in
      let more = apart_given (no (eq o x)) o w r ws h w_are p.1 in
      (p.0, or_from (same_ref r s) (is_in r ws) (apart (same_ref r s) (λ same. no_given more.0 (eq_holds h x_is (ap ref_value (same_ref_is r s same))))) more.1)
    where
      apart : (b : Bool) → (b ≡ true → ⊥) → b ≡ false
      apart true f = absurd (f refl)
      apart false f = refl

  pub spared_given : (w : List Formula) (ws : List Ref) {t f o z : Formula} {T r : Ref} {x u : RawHeap} → Has l e t (ref_value T) → Has l e f (HeapValue x) → Has l e o (ref_value r) → Has l e z (HeapValue u) → HaveAll l e (trees w) (map ref_value ws) → Given l e (all_of (unwritable t f o z w)) → (owner_at x r ≡ Refers T) × (owner_at u r ≡ Refers T) × (is_in r ws ≡ false)
  spared_given w ws {t} {f} {o} {z} {T} {r} {x} {u} a b c d m n =
      let p = both_given n in
      let q = apart_given (owned_by z o t) o w r ws c m p.1 in
      (ap scalar (eq_given (owner_has b c) a p.0), ap scalar (eq_given (owner_has d c) a q.0), q.1)

module _ {l : Language} {e : Env} (env : IsEnv l.program e) (tree : ℕ → Option Formula) where
  pub holds_16 : RowHolds l e (axiom_16 l tree)
  holds_16 = ref_holds env tree (λ t T a i. heap_holds env tree (λ f x b. heap_holds env tree (λ g y c. gives_holds (imp_holds (λ p.
      let s = rely_given a b c p in
      both_hold (good_holds s.before_shown s.rely.before) (good_holds s.after_shown s.rely.after))))))

  pub holds_17 : RowHolds l e (axiom_17 l tree)
  holds_17 = ref_holds env tree (λ t T a i. heap_holds env tree (λ f x b. heap_holds env tree (λ g y c. ref_holds env tree (λ o r d j. column_holds env tree (λ n col ks vs is m sorted. gives_holds (imp_holds (λ p.
      let q = both_given p in
      let s = rely_given a b c q.0 in
      let v = both_given q.1 in
      let opened = open_given s.before_shown d v.0 in
      let owned = owner_given s.before_shown d a v.1 in
      let kept : s.after.get r ≡ s.before.get r = s.rely.own_open r (mutable_by T s.before r opened owned) in
      both_hold (mode_holds s.after_shown d Open (ap (λ (c : Record). c.mode) kept ∙ opened))
      (both_hold (owner_holds s.after_shown d a (ap (λ (c : Record). c.owner) kept ∙ owned))
      (eq_holds (get_has ks col is s.after_shown.has d m) (get_has ks col is s.before_shown.has d m) (ap PlainValue (same_columns l.program s.before s.after r (place_of col (map scalar vs)) kept)))))))))))

  pub holds_18 : RowHolds l e (axiom_18 l tree)
  holds_18 = ref_holds env tree (λ t T a i. heap_holds env tree (λ f x b. heap_holds env tree (λ g y c. ref_holds env tree (λ o r d j. gives_holds (imp_holds (λ p.
      let q = both_given p in
      let s = rely_given a b c q.0 in
      let v = both_given q.1 in
      let kept = s.rely.own_closed r (wrapped_by T s.before r (closed_given s.before_shown d v.0) (owner_given s.before_shown d a v.1)) in
      let parts = and_parts (closed_in s.after r) (same_ref (s.after.get r).owner T) kept.0 in
      both_hold (closed_holds s.after_shown d parts.0) (both_hold (owner_holds s.after_shown d a (same_ref_is _ T parts.1)) (eq_holds (count_is s.after_shown d) (count_is s.before_shown d) (ap int_value kept.1)))))))))

  pub holds_19 : RowHolds l e (axiom_19 l tree)
  holds_19 = ref_holds env tree (λ t T a i. heap_holds env tree (λ f x b. heap_holds env tree (λ g y c. ref_holds env tree (λ o r d j. number_holds (λ ty. column_holds env tree (λ n col ks vs is m sorted. fits_hold (λ fit. gives_holds (imp_holds (λ p.
      let q = both_given p in
      let s = rely_given a b c q.0 in
      let v = both_given q.1 in
      let stable = own_in l.program T s.before r (stab_given [] [] a s.before_shown.has d s.before_shown.has none v.0) in
      let kept = s.rely.stable r stable in
      both_hold (stab_holds [] [] a s.after_shown.has d s.after_shown.has none (own_out l.program T s.after r kept.1))
      (eq_holds (get_has ks col is s.after_shown.has d m) (get_has ks col is s.before_shown.has d m) (ap PlainValue (fixed_columns l.program s.before s.after r ty col (map scalar vs) fit (type_given d v.1) kept.0))))))))))))

  pub holds_20 : RowHolds l e (axiom_20 l tree)
  holds_20 = ref_holds env tree (λ t T a i. heap_holds env tree (λ f x b. heap_holds env tree (λ g y c. ref_holds env tree (λ o r d j. gives_holds (imp_holds (λ p.
      let q = both_given p in
      let s = rely_given a b c q.0 in
      let owned = owner_given s.after_shown d a q.1 in
      let before : (s.before.get r).owner ≡ T = elim (test_cases (same_ref (s.before.get r).owner T)) [
        | inl y ↦ same_ref_is (s.before.get r).owner T y
        | inr n ↦ absurd (s.rely.foreign r (λ same. both_ways _ n (same_by _ T same)) owned)
      ] in
      owner_holds s.before_shown d a before))))))

  pub holds_21a : RowHolds l e (axiom_21a l tree)
  holds_21a = ref_holds env tree (λ t T a i. heap_holds env tree (λ f x b. heap_holds env tree (λ g y c. heap_holds env tree (λ z u d. refs_hold env tree (λ w ws m. gives_holds (imp_holds (λ p.
      let s = frame_given w ws a b c d m p in
      good_holds s.after_shown s.frame.after)))))))

  pub holds_21b : RowHolds l e (axiom_21b l tree)
  holds_21b = ref_holds env tree (λ t T a i. heap_holds env tree (λ f x b. heap_holds env tree (λ g y c. heap_holds env tree (λ z u d. refs_hold env tree (λ w ws m. ref_holds env tree (λ o r h j. column_holds env tree (λ n col ks vs is keys sorted. gives_holds (imp_holds (λ p.
      let q = both_given p in
      let v = both_given q.0 in
      let s = frame_given w ws a b c d m v.0 in
      let owns = spared_given w ws a s.before_shown.has h s.entry_shown.has m v.1 in
      let opened = open_given s.before_shown h q.1 in
      let owned : (s.before.get r).owner ≡ T = ap (λ v. reference (PlainValue v)) owns.0 in
      let entry : (s.entry.get r).owner ≡ T = ap (λ v. reference (PlainValue v)) owns.1 in
      let kept : s.after.get r ≡ s.before.get r = s.frame.own_open r (mutable_by T s.before r opened owned) (not_writable_by T s.entry ws r entry owns.2) in
      both_hold (mode_holds s.after_shown h Open (ap (λ (c : Record). c.mode) kept ∙ opened))
      (both_hold (owner_holds s.after_shown h a (ap (λ (c : Record). c.owner) kept ∙ owned))
      (eq_holds (get_has ks col is s.after_shown.has h keys) (get_has ks col is s.before_shown.has h keys) (ap PlainValue (same_columns l.program s.before s.after r (place_of col (map scalar vs)) kept)))))))))))))

  pub holds_21c : RowHolds l e (axiom_21c l tree)
  holds_21c = ref_holds env tree (λ t T a i. heap_holds env tree (λ f x b. heap_holds env tree (λ g y c. heap_holds env tree (λ z u d. refs_hold env tree (λ w ws m. ref_holds env tree (λ o r h j. gives_holds (imp_holds (λ p.
      let q = both_given p in
      let v = both_given q.0 in
      let s = frame_given w ws a b c d m v.0 in
      let owns = spared_given w ws a s.before_shown.has h s.entry_shown.has m v.1 in
      let owned : (s.before.get r).owner ≡ T = ap (λ v. reference (PlainValue v)) owns.0 in
      let entry : (s.entry.get r).owner ≡ T = ap (λ v. reference (PlainValue v)) owns.1 in
      let kept = s.frame.own_closed r (wrapped_by T s.before r (closed_given s.before_shown h q.1) owned) (not_writable_by T s.entry ws r entry owns.2) in
      let parts = and_parts (closed_in s.after r) (same_ref (s.after.get r).owner T) kept.0 in
      both_hold (closed_holds s.after_shown h parts.0) (both_hold (owner_holds s.after_shown h a (same_ref_is _ T parts.1)) (eq_holds (count_is s.after_shown h) (count_is s.before_shown h) (ap int_value kept.1)))))))))))

  pub holds_21d : RowHolds l e (axiom_21d l tree)
  holds_21d = ref_holds env tree (λ t T a i. heap_holds env tree (λ f x b. heap_holds env tree (λ g y c. heap_holds env tree (λ z u d. refs_hold env tree (λ w ws m. ref_holds env tree (λ o r h j. number_holds (λ ty. column_holds env tree (λ n col ks vs is keys sorted. fits_hold (λ fit. gives_holds (imp_holds (λ p.
      let q = both_given p in
      let s = frame_given w ws a b c d m q.0 in
      let v = both_given q.1 in
      let kept = s.frame.stable r (frame_in l.program T s.before s.entry ws r (stab_given w ws a s.before_shown.has h s.entry_shown.has m v.0)) in
      both_hold (stab_holds w ws a s.after_shown.has h s.entry_shown.has m (frame_out l.program T s.after s.entry ws r kept.1))
      (eq_holds (get_has ks col is s.after_shown.has h keys) (get_has ks col is s.before_shown.has h keys) (ap PlainValue (fixed_columns l.program s.before s.after r ty col (map scalar vs) fit (type_given h v.1) kept.0))))))))))))))

  pub holds_22a : RowHolds l e (axiom_22a l tree)
  holds_22a = ref_holds env tree (λ t T a i. heap_holds env tree (λ f x b. ref_holds env tree (λ o r h j. heap_holds env tree (λ z u d. refs_hold env tree (λ w ws m. gives_holds (imp_holds (λ p.
      let q = both_given p in
      let owns = spared_given w ws a b h d m q.1 in
      let now : closed_test x r ≡ true = closed_by (eq_given (mode_has b h) (num_has (pos 2)) q.0) in
      stab_holds w ws a b h d m (root now owns.0 owns.1 owns.2))))))))
    where
      closed_by : {v : Scalar} → PlainValue v ≡ int_value (pos 2) → same_value v (Int (pos 2)) ≡ true
      closed_by {v} h = ap (λ v. same_value (scalar v) (Int (pos 2))) h

  pub holds_22b : RowHolds l e (axiom_22b l tree)
  holds_22b = heap_holds env tree (λ f x b. ref_holds env tree (λ t T a i. ref_holds env tree (λ o r h j. heap_holds env tree (λ z u d. refs_hold env tree (λ w ws m. ref_holds env tree (λ q s k n. gives_holds (imp_holds (λ p.
      let v = both_given p in
      let g = good_given b v.0 in
      let y = both_given v.1 in
      let stable = stab_given w ws a g.shown.has h d m y.0 in
      let now : is_one (raw l.program g.heap (ClaimedAt s) r) ≡ true = ap (λ v. is_one (scalar v)) (eq_given (lists_has g.shown.has h k) (num_has (pos 1)) y.1) in
      let claim : is_claim r ≡ true = claim_lists g.heap r s (g.good.well_formed.heap_of.claims_list r) (sym (one_says (is_in s (g.heap.get r).listed)) ∙ now) in
      stab_holds w ws a g.shown.has k d m (claimed stable claim (closed_is l.program g.heap r ∙ stable_closed l.program T g.heap u ws g.good.well_formed r stable) now)))))))))

  pub holds_22c : RowHolds l e (axiom_22c l tree)
  holds_22c = heap_holds env tree (λ f x b. ref_holds env tree (λ t T a i. ref_holds env tree (λ o r h j. heap_holds env tree (λ z u d. refs_hold env tree (λ w ws m. ref_holds env tree (λ q s k n. number_holds (λ ty. fits_hold (λ fit. gives_holds (imp_holds (λ p.
      let v = both_given p in
      let y = both_given v.1 in
      let x' = both_given y.1 in
      let now : owns_test x r s ≡ true = ap (λ v. is_one (scalar v)) (eq_given (owns_has b h k) (num_has (pos 1)) x'.1) in
      let plain : has_volatile_owns l.program r.ty ≡ false = ap (λ ty. has_volatile_owns l.program ty) (type_given h x'.0) ∙ false_from _ (and_parts (is_type l.program ty) (not (has_volatile_owns l.program ty)) fit).1 in
      stab_holds w ws a b k d m (member (stab_given w ws a b h d m y.0) plain now)))))))))))

  pub holds_22d : RowHolds l e (axiom_22d l tree)
  holds_22d = heap_holds env tree (λ f x b. ref_holds env tree (λ t T a i. ref_holds env tree (λ o r h j. heap_holds env tree (λ z u d. refs_hold env tree (λ w ws m. gives_holds (imp_holds (λ p.
      let v = both_given p in
      let g = good_given b v.0 in
      closed_holds g.shown h (stable_closed l.program T g.heap u ws g.good.well_formed r (stab_given w ws a g.shown.has h d m v.1)))))))))

  pub holds_22e : RowHolds l e (axiom_22e l tree)
  holds_22e = ref_holds env tree (λ u U a i. heap_holds env tree (λ f x b. ref_holds env tree (λ o r h j. gives_holds (imp_holds (λ p. no_holds (λ g.
      let d = node_given (more a (one b)) p in
      let idle : IsIdle U x = d.1.yes d.2 in
      idle r (ap scalar (eq_given (owner_has b h) a g))))))))
