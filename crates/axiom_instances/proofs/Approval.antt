-- The axioms of owner approval are true.
use Rattle.std.proofs.Common.{◌≡◌, ℕ, true, ◌⊎◌, inl, inr, List, map, Option, ap}
use Rattle.std.proofs.lemmas.Bool.{and_parts}
use Rattle.object_types.specs.declared.references.Ref.{Ref}
use Rattle.object_types.specs.declared.values.Value.{Value as Scalar}
use Rattle.object_types.specs.declared.values.Value.TheVariants.{Ref as Refers}
use Rattle.object_types.specs.Values.{or_zero}
use Rattle.object_types.specs.Heap.{Heap}
use Rattle.method.specs.declared.program.Program.{Program}
use Rattle.method.specs.Tables.{is_approved, is_field_of, type_of_field, zero_of}
use Rattle.method.specs.WellFormed.{KeepsApproved}
use Rattle.terms.specs.Formula.{Formula}
use Rattle.term_meaning.specs.Columns.{Column, Modes, Owners, Counts, OwnedSets, ClaimedSets, Field, Shape}
use Rattle.term_meaning.specs.RawHeaps.{RawHeap, place_of, raw, owner_at}
use Rattle.term_meaning.specs.RawRelations.{IsUntouched}
use Rattle.term_meaning.specs.Meaning.{PlainValue, Env, IsEnv, scalar, reference, Language, IsFaithful}
use Rattle.term_meaning.specs.Filling.{IsLayered}
use Rattle.axiom_instances.specs.Axioms.{axiom_25, axiom_26, axiom_27, is_approved_of}
use Rattle.axiom_instances.proofs.Kit.{RowHolds, imp_holds, both_given, either_given, eq_given, eq_holds, get_has, gives_holds, fits_hold, number_holds, heap_holds, ref_holds, refs_hold, column_holds}
use Rattle.axiom_instances.proofs.Facts.{owner_has, closed_given, owner_given}
use Rattle.axiom_instances.proofs.Stability.{wrapped_by, not_writable_by}
use Rattle.axiom_instances.proofs.Steps.{rely_given, frame_given, spared_given}
use Rattle.axiom_instances.proofs.Invariants.{untouched_given, same_scalar}

-- an approved field, on the columns of two records with the same approved fields
pub approved_columns : (p : Program) (h k : Heap) (o : Ref) (ty : ℕ) (c : Column) (ks : List Scalar) → is_approved_of p ty c ≡ true → KeepsApproved p (h.get o) (k.get o) → raw p k (place_of c ks) o ≡ raw p h (place_of c ks) o
approved_columns p h k o ty Modes ks fit a = absurd (cc)
approved_columns p h k o ty Owners ks fit a = absurd (cc)
approved_columns p h k o ty Counts ks fit a = absurd (cc)
approved_columns p h k o ty OwnedSets ks fit a = absurd (cc)
approved_columns p h k o ty ClaimedSets ks fit a = absurd (cc)
approved_columns p h k o ty (Field n) ks fit a = ap (λ v. or_zero (zero_of (type_of_field p n)) v) (a.fields n (and_parts (is_field_of p n ty) (is_approved p n) fit).1)
approved_columns p h k o ty (Shape n) ks fit a = absurd (cc)

-- the same on any raw heaps, of which one step doesn't touch the owner
untouched_columns : (p : Program) (o q : Ref) (x y : RawHeap) (ty : ℕ) (c : Column) (ks : List Scalar) → is_approved_of p ty c ≡ true → (owner_at x q ≡ Refers o) ⊎ (owner_at y q ≡ Refers o) → IsUntouched p o x y → y (place_of c ks) q ≡ x (place_of c ks) q
untouched_columns p o q x y ty Modes ks fit w u = absurd (cc)
untouched_columns p o q x y ty Owners ks fit w u = absurd (cc)
untouched_columns p o q x y ty Counts ks fit w u = absurd (cc)
untouched_columns p o q x y ty OwnedSets ks fit w u = absurd (cc)
untouched_columns p o q x y ty ClaimedSets ks fit w u = absurd (cc)
untouched_columns p o q x y ty (Field n) ks fit w u = u.approved q w n (and_parts (is_field_of p n ty) (is_approved p n) fit).1
untouched_columns p o q x y ty (Shape n) ks fit w u = absurd (cc)

module _ {l : Language} {e : Env} (env : IsEnv l.program e) (tree : ℕ → Option Formula) where
  pub holds_25 : RowHolds l e (axiom_25 l tree)
  holds_25 = ref_holds env tree (λ t T a i. heap_holds env tree (λ f x b. heap_holds env tree (λ g y c. ref_holds env tree (λ o r d j. number_holds (λ ty. column_holds env tree (λ n col ks vs is m sorted. fits_hold (λ fit. gives_holds (imp_holds (λ p.
      let q = both_given p in
      let s = rely_given a b c q.0 in
      let v = both_given q.1 in
      let w = both_given v.1 in
      let kept = s.rely.own_closed r (wrapped_by T s.before r (closed_given s.before_shown d v.0) (owner_given s.before_shown d a w.0)) in
      eq_holds (get_has ks col is s.after_shown.has d m) (get_has ks col is s.before_shown.has d m) (ap PlainValue (approved_columns l.program s.before s.after r ty col (map scalar vs) fit kept.2)))))))))))

  pub holds_26 : RowHolds l e (axiom_26 l tree)
  holds_26 = ref_holds env tree (λ t T a i. heap_holds env tree (λ f x b. heap_holds env tree (λ g y c. heap_holds env tree (λ z u d. refs_hold env tree (λ w ws m. ref_holds env tree (λ o r h j. number_holds (λ ty. column_holds env tree (λ n col ks vs is keys sorted. fits_hold (λ fit. gives_holds (imp_holds (λ p.
      let q = both_given p in
      let v = both_given q.0 in
      let s = frame_given w ws a b c d m v.0 in
      let owns = spared_given w ws a s.before_shown.has h s.entry_shown.has m v.1 in
      let owned : (s.before.get r).owner ≡ T = ap (λ v. reference (PlainValue v)) owns.0 in
      let entry : (s.entry.get r).owner ≡ T = ap (λ v. reference (PlainValue v)) owns.1 in
      let kept = s.frame.own_closed r (wrapped_by T s.before r (closed_given s.before_shown h (both_given q.1).0) owned) (not_writable_by T s.entry ws r entry owns.2) in
      eq_holds (get_has ks col is s.after_shown.has h keys) (get_has ks col is s.before_shown.has h keys) (ap PlainValue (approved_columns l.program s.before s.after r ty col (map scalar vs) fit kept.2)))))))))))))

module _ {l : Language} {e : Env} (env : IsEnv l.program e) (layered : IsLayered l) (faithful : IsFaithful l) (tree : ℕ → Option Formula) where
  pub holds_27 : RowHolds l e (axiom_27 l tree)
  holds_27 = heap_holds {l = l} {e = e} env tree (λ f x a. heap_holds env tree (λ g y b. ref_holds env tree (λ o r c i. ref_holds env tree (λ q s d j. number_holds (λ ty. column_holds env tree (λ n col ks vs is m sorted. fits_hold (λ fit. gives_holds (imp_holds (λ p.
      let v = both_given p in
      let z = both_given v.1 in
      let w : (owner_at x s ≡ Refers r) ⊎ (owner_at y s ≡ Refers r) = elim (either_given z.1) [
        | inl h ↦ inl (ap scalar (eq_given (owner_has a d) c h))
        | inr h ↦ inr (ap scalar (eq_given (owner_has b d) c h))
      ] in
      eq_holds (get_has ks col is b d m) (get_has ks col is a d m) (ap PlainValue (same_scalar _ _ (λ fails. untouched_given {l = l} {e = e} env layered faithful tree a b c v.0 (λ u. fails (untouched_columns l.program r s x y ty col (map scalar vs) fit w u))))))))))))))
