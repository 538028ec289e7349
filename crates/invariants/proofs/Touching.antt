-- When a step touches an object.
use Rattle.std.proofs.Common.{◌≡◌, ◌≢◌, Bool, true, false, not, ◌||◌, ◌⊎◌, inl, inr, refl, sym, ap, subst}
use mathlib.Core.Bool.{beq}
use Rattle.std.proofs.lemmas.Bool.{both_ways, or_cases, or_left, or_right, and_parts, and_from}
use Rattle.object_types.specs.declared.references.Ref.{Ref}
use Rattle.object_types.specs.References.{same_ref}
use Rattle.object_types.specs.Values.{same_int}
use Rattle.object_types.specs.Heap.{Heap, Record, nothing, closed_in}
use Rattle.object_types.specs.Content.{SameContent}
use Rattle.object_types.proofs.Orders.{ref_order, int_order}
use Rattle.method.specs.declared.program.Program.{Program}
use Rattle.method.specs.WellFormed.{KeepsApproved}
use Rattle.method.specs.Legal.{Touched}
use Rattle.invariants.specs.Counts.{approved_differs, part_differs}
use Rattle.invariants.proofs.Approving.{approved_same, approved_apart}

pub touched_by_content : (p : Program) (o : Ref) (h0 h1 : Heap) → (SameContent (h1.get o) (h0.get o) → ⊥) → Touched p o h0 h1
touched_by_content p o h0 h1 other u = other (record { count = u.count; owned = u.owned; fields = u.fields; listed = u.listed; shapes = u.shapes })

pub touched_by_mode : (p : Program) (o : Ref) (h0 h1 : Heap) → closed_in h0 o ≢ closed_in h1 o → Touched p o h0 h1
touched_by_mode p o h0 h1 other u = other (sym u.closed)

owner_in : (o q : Ref) (h0 h1 : Heap) → (same_ref (h0.get q).owner o || same_ref (h1.get q).owner o) ≡ true → ((h0.get q).owner ≡ o) ⊎ ((h1.get q).owner ≡ o)
owner_in o q h0 h1 h = elim (or_cases (same_ref (h0.get q).owner o) (same_ref (h1.get q).owner o) h) [ inl s ↦ inl (ref_order.equal _ _ s) | inr s ↦ inr (ref_order.equal _ _ s) ]

in_owner : (o q : Ref) (h0 h1 : Heap) → ((h0.get q).owner ≡ o) ⊎ ((h1.get q).owner ≡ o) → (same_ref (h0.get q).owner o || same_ref (h1.get q).owner o) ≡ true
in_owner o q h0 h1 (inl e) = or_left _ _ (subst (λ r. same_ref (h0.get q).owner r ≡ true) e (ref_order.itself _))
in_owner o q h0 h1 (inr e) = or_right _ _ (subst (λ r. same_ref (h1.get q).owner r ≡ true) e (ref_order.itself _))

abbrev is_owned : Ref → Heap → Heap → Ref → Bool
is_owned o h0 h1 q = same_ref (h0.get q).owner o || same_ref (h1.get q).owner o

abbrev count_apart : Heap → Heap → Ref → Bool
count_apart h0 h1 q = not (same_int (h1.get q).count (h0.get q).count)

pub touched_by_part : (p : Program) (o : Ref) (h0 h1 : Heap) (q : Ref) → part_differs p o h0 h1 q ≡ true → Touched p o h0 h1
touched_by_part p o h0 h1 q d u =
    let parts = and_parts (is_owned o h0 h1 q) (count_apart h0 h1 q || approved_differs p (h0.get q) (h1.get q)) d in
    let own = owner_in o q h0 h1 parts.0 in
    elim (or_cases (count_apart h0 h1 q) (approved_differs p (h0.get q) (h1.get q)) parts.1) [
      | inl apart ↦
          let test : same_int (h1.get q).count (h0.get q).count ≡ true = subst (λ z. same_int (h1.get q).count z ≡ true) (u.counts q own) (int_order.itself (h1.get q).count) in
          both_ways _ (ap not test) apart
      | inr differs ↦ approved_apart p (h0.get q) (h1.get q) differs (u.approved q own)
    ]

-- no part differs of what stands in the one heap or the other, so none does
no_part_differs : (p : Program) (o : Ref) (h0 h1 : Heap) → ((q : Ref) → h0.get q ≢ nothing → part_differs p o h0 h1 q ≡ false) → ((q : Ref) → h1.get q ≢ nothing → part_differs p o h0 h1 q ≡ false) → (q : Ref) → part_differs p o h0 h1 q ≡ false
no_part_differs p o h0 h1 first second q = by_test (part_differs p o h0 h1 q) refl
  where
    neither : (r s : Record) → r ≡ nothing → s ≡ nothing → (not (same_int s.count r.count) || approved_differs p r s) ≡ true → ⊥
    neither r s e g h =
        elim (or_cases (not (same_int s.count r.count)) (approved_differs p r s) h) [
          | inl apart ↦ both_ways _ (λ i. not (same_int (g i).count (e i).count)) apart
          | inr differs ↦ approved_apart p r s differs (subst (λ z. KeepsApproved p z s) (sym e) (subst (λ z. KeepsApproved p nothing z) (sym g) (record { fields = λ f a. refl })))
        ]

    by_test : (b : Bool) → part_differs p o h0 h1 q ≡ b → b ≡ false
    by_test false e = refl
    by_test true e = absurd (both_ways _ (first q (λ none0. both_ways _ (second q (λ none1.
        let parts = and_parts (is_owned o h0 h1 q) (count_apart h0 h1 q || approved_differs p (h0.get q) (h1.get q)) e in
        neither (h0.get q) (h1.get q) none0 none1 parts.1)) e)) e)

same_parts : (p : Program) (o : Ref) (h0 h1 : Heap) (q : Ref) → part_differs p o h0 h1 q ≡ false → ((h0.get q).owner ≡ o) ⊎ ((h1.get q).owner ≡ o) → ((h1.get q).count ≡ (h0.get q).count) × KeepsApproved p (h0.get q) (h1.get q)
same_parts p o h0 h1 q d own = by_test (same_int (h1.get q).count (h0.get q).count) refl (approved_differs p (h0.get q) (h1.get q)) refl
  where
    by_test : (b : Bool) → same_int (h1.get q).count (h0.get q).count ≡ b → (c : Bool) → approved_differs p (h0.get q) (h1.get q) ≡ c → ((h1.get q).count ≡ (h0.get q).count) × KeepsApproved p (h0.get q) (h1.get q)
    by_test true e false g = (int_order.equal _ _ e, approved_same p (h0.get q) (h1.get q) g)
    by_test true e true g = absurd (both_ways _ d (and_from _ _ (in_owner o q h0 h1 own) (or_right _ _ g)))
    by_test false e c g = absurd (both_ways _ d (and_from _ _ (in_owner o q h0 h1 own) (or_left _ _ (ap not e))))

pub not_touched : (p : Program) (o : Ref) (h0 h1 : Heap) → SameContent (h1.get o) (h0.get o) → closed_in h0 o ≡ closed_in h1 o → ((q : Ref) → h0.get q ≢ nothing → part_differs p o h0 h1 q ≡ false) → ((q : Ref) → h1.get q ≢ nothing → part_differs p o h0 h1 q ≡ false) → Touched p o h0 h1 → ⊥
not_touched p o h0 h1 content closed first second touched = touched (record {
  count = content.count;
  owned = content.owned;
  fields = content.fields;
  listed = content.listed;
  shapes = content.shapes;
  closed = sym closed;
  counts = λ q own. (same_parts p o h0 h1 q (no_part_differs p o h0 h1 first second q) own).0;
  approved = λ q own. (same_parts p o h0 h1 q (no_part_differs p o h0 h1 first second q) own).1;
})

pub alike : (a b : Bool) → not (beq a b) ≡ false → a ≡ b
alike true true h = refl
alike true false h = absurd (cc)
alike false true h = absurd (cc)
alike false false h = refl

pub holds_unless_false : (b : Bool) → (b ≡ false → ⊥) → b ≡ true
holds_unless_false true h = refl
holds_unless_false false h = absurd (h refl)
