-- Where nothing stands.
use Rattle.std.proofs.Common.{◌≡◌, ◌≢◌, ℕ, ◌==◌, Bool, true, false, cond, List, [], ◌∷◌, length, refl, sym, ap, ◌∙◌, Some, None, arith}
use Rattle.std.specs.List.{find}
use Rattle.std.specs.Option.{option_map}
use Rattle.std.proofs.lemmas.Bool.{and_parts, both_ways, eqb-true, eq-eqb}
use Rattle.object_types.specs.declared.fields.Kept.{Kept}
use Rattle.object_types.specs.Fields.{field_in, same_field}
use Rattle.object_types.specs.References.{null, same_ref}
use Rattle.object_types.specs.Heap.{Record, nothing}
use Rattle.object_types.proofs.Orders.{ref_order, int_order}
use Rattle.machine_laws.proofs.Heaps.{absent_mode}
use Rattle.machine_objects.specs.Vacancy.{no_status}

pub empty : {X : Type 0} (xs : List X) → length xs ≡ 0 → xs ≡ []
empty [] e = refl
empty (x ∷ xs) e = absurd (omega (arith, e))

pub none_there : {X : Type 0} (xs ys : List X) (b : Bool) → b ≡ (length xs == 0) → b ≡ true → xs ≡ ys → ys ≡ []
none_there xs ys b is e same = sym same ∙ empty xs (eqb-true (length xs) 0 (sym is ∙ e))

pub vacant : (r : Record) → no_status r ≡ true → r.owned ≡ [] → ((f : ℕ) → r.fields f ≡ None) → r.listed ≡ [] → r.shapes ≡ [] → r ≡ nothing
vacant r status owned fields listed shapes =
    let a = and_parts _ _ status in
    let b = and_parts _ _ a.1 in
    let mode = absent_mode r.mode a.0 in
    let owner = ref_order.equal r.owner null b.0 in
    let count = int_order.equal r.count _ b.1 in
    λ i. record { mode = mode i; owner = owner i; count = count i; owned = owned i; fields = (λ f. fields f i); listed = listed i; shapes = shapes i }

-- Where something stands.

pub occupied_status : (r : Record) → no_status r ≡ false → r ≢ nothing
unfolding same_ref
occupied_status r f e = both_ways (no_status r) f (ap no_status e)

pub occupied_list : {X : Type 0} (xs ys : List X) (b : Bool) → b ≡ (length xs == 0) → b ≡ false → xs ≡ ys → ys ≢ []
occupied_list xs ys b is e same none = both_ways b e (is ∙ ap (λ zs. length zs == 0) (same ∙ none))

pub occupied_fields : (ks : List Kept) (b : Bool) → b ≡ (length ks == 0) → b ≡ false → ((f : ℕ) → field_in ks f ≡ None) → ⊥
occupied_fields [] b is e none = both_ways b e is
occupied_fields (k ∷ ks) b is e none =
    let here : (k.field == k.field) ≡ true = eq-eqb k.field k.field refl in
    let first : Some k.value ≡ None =
    sym (ap (λ t. option_map (λ (z : Kept). z.value) (cond t (Some k) (find (λ (z : Kept). same_field k.field z.field) ks))) here) ∙ none k.field
    in
    absurd (cc (first))
