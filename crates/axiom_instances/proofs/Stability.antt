-- The stable set on columns is that of the heap; what is fixed keeps its columns.
use Rattle.std.proofs.Common.{◌≡◌, ℕ, Bool, true, false, not, ◌&&◌, ◌||◌, List, [], IsTrue, refl, sym, ap, ◌∙◌, subst}
use Rattle.std.proofs.lemmas.Bool.{and_parts, and_from, or_parts}
use Rattle.object_types.specs.declared.references.Ref.{Ref}
use Rattle.object_types.specs.declared.values.Value.{Value as Scalar}
use Rattle.object_types.specs.declared.values.Value.TheVariants.{Int, Ref as Refers}
use Rattle.object_types.specs.declared.records.Mode.TheVariants.{Open}
use Rattle.object_types.specs.References.{same_ref, is_claim}
use Rattle.object_types.specs.Values.{referent, says, or_zero}
use Rattle.object_types.specs.Sets.{is_in}
use Rattle.object_types.specs.Shapes.{has_entry}
use Rattle.object_types.specs.Heap.{Heap, Record, closed_in, wrapped, writable, mutable, is_open as open_mode}
use Rattle.method.specs.declared.program.Program.{Program}
use Rattle.method.specs.Tables.{has_volatile_owns, is_volatile, is_field_of, type_of_field, zero_of}
use Rattle.method.specs.WellFormed.{WellFormed, IsFixed}
use Rattle.method.specs.StableSet.{StableFrom, root, claimed, member, Spared, InFrameSet, InStableSet}
use Rattle.method.proofs.Global.{same_ref_is, same_ref_self}
use Rattle.term_meaning.specs.Columns.{Column, Modes, Owners, Counts, OwnedSets, ClaimedSets, Field, Shape}
use Rattle.term_meaning.specs.RawHeaps.{RawHeap, Place, ModeAt, OwnerAt, CountAt, MemberAt, ClaimedAt, FieldAt, ShapeAt, place_of, raw, mode_number, member_key, closed, owner_at}
use Rattle.term_meaning.specs.RawRelations.{IsInStableSet, root as raw_root, claimed as raw_claimed, member as raw_member}
use Rattle.term_meaning.proofs.OneHeap.{closed_mode_is}
use Rattle.term_meaning.proofs.Changes.{one_says}
use Rattle.axiom_instances.specs.Axioms.{is_fixed, is_type}

pub closed_is : (p : Program) (h : Heap) (o : Ref) → closed (raw p h) o ≡ closed_in h o
closed_is p h o = closed_mode_is (h.get o).mode

pub same_by : (a b : Ref) → a ≡ b → same_ref a b ≡ true
same_by a b h = subst (λ c. same_ref a c ≡ true) h (same_ref_self a)

pub owner_at_is : (p : Program) (h : Heap) (o t : Ref) → owner_at (raw p h) o ≡ Refers t → (h.get o).owner ≡ t
owner_at_is p h o t e = ap referent e

-- open, or closed, and owned by t
pub mutable_by : (t : Ref) (h : Heap) (o : Ref) → (h.get o).mode ≡ Open → (h.get o).owner ≡ t → mutable t h o ≡ true
mutable_by t h o m w = and_from _ _ (ap open_mode m) (same_by _ _ w)

pub wrapped_by : (t : Ref) (h : Heap) (o : Ref) → closed_in h o ≡ true → (h.get o).owner ≡ t → wrapped t h o ≡ true
wrapped_by t h o c w = and_from _ _ c (same_by _ _ w)

pub not_writable_by : (t : Ref) (z : Heap) (w : List Ref) (o : Ref) → (z.get o).owner ≡ t → is_in o w ≡ false → writable t z w o ≡ false
not_writable_by t z w o owned out = (λ i. out i || not (same_by _ _ owned i))

-- From the columns to the heap, whatever the roots are.
module _ (p : Program) (t : Ref) (h : Heap) (z : RawHeap) (w : List Ref) (Root : Ref → Type 0) (root_is : (o : Ref) → closed_in h o ≡ true → (h.get o).owner ≡ t → owner_at z o ≡ Refers t → is_in o w ≡ false → Root o) where
  pub stable_in : (o : Ref) → IsInStableSet p t (raw p h) z w o → StableFrom p h Root o
  stable_in o (raw_root c m n out) = root (root_is o (sym (closed_is p h o) ∙ c) (owner_at_is p h o t m) n out)
  stable_in o (raw_claimed {c = c} s k d m) = claimed (stable_in c s) (and_from _ _ k (and_from _ _ (sym (closed_is p h c) ∙ d) (sym (one_says (is_in o (h.get c).listed)) ∙ m)))
  stable_in o (raw_member {c = c} s v m) = member (stable_in c s) v (sym (one_says (is_in o (h.get c).owned)) ∙ m)

module _ (p : Program) (t : Ref) (h : Heap) (z : RawHeap) (w : List Ref) (Root : Ref → Type 0) (is_root : (o : Ref) → Root o → (closed_in h o ≡ true) × ((h.get o).owner ≡ t) × (owner_at z o ≡ Refers t) × (is_in o w ≡ false)) where
  pub stable_out : (o : Ref) → StableFrom p h Root o → IsInStableSet p t (raw p h) z w o
  stable_out o (root r) = let f = is_root o r in raw_root (closed_is p h o ∙ f.0) (ap Refers f.1) f.2 f.3
  stable_out o (claimed {c = c} s m) =
      let k = and_parts (is_claim c) (closed_in h c && is_in o (h.get c).listed) m in
      let d = and_parts (closed_in h c) (is_in o (h.get c).listed) k.1 in
      raw_claimed (stable_out c s) k.0 (closed_is p h c ∙ d.0) (one_says (is_in o (h.get c).listed) ∙ d.1)
  stable_out o (member {c = c} s v m) = raw_member (stable_out c s) v (one_says (is_in o (h.get c).owned) ∙ m)

wrapped_parts : (t : Ref) (h : Heap) (o : Ref) → wrapped t h o ≡ true → (closed_in h o ≡ true) × ((h.get o).owner ≡ t)
wrapped_parts t h o m = let k = and_parts (closed_in h o) (same_ref (h.get o).owner t) m in (k.0, same_ref_is _ _ k.1)

pub own_in : (p : Program) (t : Ref) (h : Heap) (o : Ref) → IsInStableSet p t (raw p h) (raw p h) [] o → InStableSet p t h o
own_in p t h o s = stable_in p t h (raw p h) [] (λ o. IsTrue (wrapped t h o)) (λ o c m n out. wrapped_by t h o c m) o s

not_in_none : (o : Ref) → is_in o [] ≡ false
unfolding is_in
not_in_none o = refl

pub own_out : (p : Program) (t : Ref) (h : Heap) (o : Ref) → InStableSet p t h o → IsInStableSet p t (raw p h) (raw p h) [] o
own_out p t h o s = stable_out p t h (raw p h) [] (λ o. IsTrue (wrapped t h o)) (λ o m. let k = wrapped_parts t h o m in (k.0, k.1, ap Refers k.1, not_in_none o)) o s

pub frame_in : (p : Program) (t : Ref) (h e : Heap) (w : List Ref) (o : Ref) → IsInStableSet p t (raw p h) (raw p e) w o → InFrameSet p t h e w o
frame_in p t h e w o s = stable_in p t h (raw p e) w (Spared t h e w) (λ o c m n out. record { wrapped_now = wrapped_by t h o c m; not_written = not_writable_by t e w o (owner_at_is p e o t n) out }) o s

pub frame_out : (p : Program) (t : Ref) (h e : Heap) (w : List Ref) (o : Ref) → InFrameSet p t h e w o → IsInStableSet p t (raw p h) (raw p e) w o
frame_out p t h e w o s = stable_out p t h (raw p e) w (Spared t h e w) spared o s
  where
    owned_by : (b : Bool) → not b ≡ false → b ≡ true
    owned_by true h = refl
    owned_by false h = absurd (cc)

    spared : (o : Ref) → Spared t h e w o → (closed_in h o ≡ true) × ((h.get o).owner ≡ t) × (owner_at (raw p e) o ≡ Refers t) × (is_in o w ≡ false)
    spared o s =
        let k = wrapped_parts t h o s.wrapped_now in
        let out = or_parts (is_in o w) (not (same_ref (e.get o).owner t)) s.not_written in
        (k.0, k.1, ap Refers (same_ref_is _ _ (owned_by _ out.1)), out.0)

-- What a stable set holds is closed in a well-formed heap.
pub stable_closed : (p : Program) (t : Ref) (h : Heap) (z : RawHeap) (w : List Ref) → WellFormed p h → (o : Ref) → IsInStableSet p t (raw p h) z w o → closed_in h o ≡ true
stable_closed p t h z w f o (raw_root c m n out) = sym (closed_is p h o) ∙ c
stable_closed p t h z w f o (raw_claimed {c = c} s k d m) = (f.listed c o (and_from _ _ k (and_from _ _ (sym (closed_is p h c) ∙ d) (sym (one_says (is_in o (h.get c).listed)) ∙ m)))).0
stable_closed p t h z w f o (raw_member {c = c} s v m) = (f.member c o (stable_closed p t h z w f c s) (sym (one_says (is_in o (h.get c).owned)) ∙ m)).0

-- Columns of equal records, and of fixed ones.

pub same_columns : (p : Program) (h k : Heap) (o : Ref) (c : Place) → k.get o ≡ h.get o → raw p k c o ≡ raw p h c o
same_columns p h k o ModeAt e = ap (λ (r : Record). Int (mode_number r.mode)) e
same_columns p h k o OwnerAt e = ap (λ (r : Record). Refers r.owner) e
same_columns p h k o CountAt e = ap (λ (r : Record). Int r.count) e
same_columns p h k o (MemberAt q) e = ap (λ (r : Record). says (is_in q r.owned)) e
same_columns p h k o (ClaimedAt q) e = ap (λ (r : Record). says (is_in q r.listed)) e
same_columns p h k o (FieldAt f) e = ap (λ (r : Record). or_zero (zero_of (type_of_field p f)) (r.fields f)) e
same_columns p h k o (ShapeAt n vs) e = ap (λ (r : Record). says (has_entry (record { shape = n; values = vs }) r.shapes)) e

pub false_from : (b : Bool) → not b ≡ true → b ≡ false
false_from true h = absurd (cc)
false_from false h = refl

pub fixed_columns : (p : Program) (h k : Heap) (o : Ref) (ty : ℕ) (c : Column) (ks : List Scalar) → is_fixed p ty c ≡ true → o.ty ≡ ty → IsFixed p o h k → raw p k (place_of c ks) o ≡ raw p h (place_of c ks) o
fixed_columns p h k o ty Modes ks fit e f = absurd (cc)
fixed_columns p h k o ty Owners ks fit e f = absurd (cc)
fixed_columns p h k o ty Counts ks fit e f = absurd (cc)
fixed_columns p h k o ty OwnedSets ks fit e f = ap (λ xs. says (is_in (member_key ks) xs)) (f.owned (ap (λ ty. has_volatile_owns p ty) e ∙ false_from _ (and_parts (is_type p ty) (not (has_volatile_owns p ty)) fit).1))
fixed_columns p h k o ty ClaimedSets ks fit e f = ap (λ xs. says (is_in (member_key ks) xs)) f.listed
fixed_columns p h k o ty (Field n) ks fit e f = ap (λ v. or_zero (zero_of (type_of_field p n)) v) (f.fields n (false_from _ (and_parts (is_field_of p n ty) (not (is_volatile p n)) fit).1))
fixed_columns p h k o ty (Shape n) ks fit e f = ap (λ es. says (has_entry (record { shape = n; values = ks }) es)) f.shapes
