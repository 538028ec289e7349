-- Members pass to another owner one by one.
use Rattle.std.proofs.Common.{◌≡◌, ℕ, ◌+◌, ◌<◌, ◌≤◌, Bool, true, false, cond, ◌||◌, List, [], ◌∷◌, ◌++◌, length, get_or, take, refl, sym, ap, ◌∙◌}
use Rattle.std.proofs.lemmas.List.{take_more, take_all}
use Rattle.object_types.specs.declared.references.Ref.{Ref}
use Rattle.object_types.specs.declared.records.Mode.{Mode}
use Rattle.object_types.specs.declared.records.Stored.{Stored}
use Rattle.object_types.specs.References.{same_ref}
use Rattle.object_types.specs.Sets.{is_in}
use Rattle.object_types.specs.Heap.{Record, put_at, with_status}
use Rattle.object_types.specs.Lookups.{look_up}
use Rattle.object_types.proofs.Orders.{ref_order}
use Rattle.ownership.proofs.Lists.{in_append, in_one, or_false, or_true}

-- the records where the members have another owner
abbrev pub handed : (Ref → Record) → List Ref → Ref → Ref → Record
handed get members owner o = cond (is_in o members) (record (get o) { owner = owner }) (get o)

-- a record handed over twice to one owner
again : (r : Record) (owner : Ref) (b : Bool) → with_status (cond b (record r { owner = owner }) r).mode owner (cond b (record r { owner = owner }) r) ≡ record r { owner = owner }
again r owner true = refl
again r owner false = refl

pub one_more : (get : Ref → Record) (members : List Ref) (m owner : Ref) → put_at (handed get members owner) m (with_status (handed get members owner m).mode owner (handed get members owner m)) ≡ handed get (members ++ m ∷ []) owner
one_more get members m owner =
    let at_each : (o : Ref) → put_at (handed get members owner) m (with_status (handed get members owner m).mode owner (handed get members owner m)) o ≡ handed get (members ++ m ∷ []) owner o =
    λ o. rw (in_append o members (m ∷ []), in_one o m) (by_test o (same_ref o m) refl) in
    λ i o. at_each o i
  where
    by_test : (o : Ref) (b : Bool) → same_ref o m ≡ b → cond b (with_status (handed get members owner m).mode owner (handed get members owner m)) (handed get members owner o) ≡ cond (is_in o members || b) (record (get o) { owner = owner }) (get o)
    by_test o true e =
        let o_is : o ≡ m = ref_order.equal o m e in
        again (get m) owner (is_in m members) ∙ ap (λ x. record (get x) { owner = owner }) (sym o_is) ∙ rw (or_true (is_in o members)) refl
    by_test o false e = rw (or_false (is_in o members)) refl

-- the next member's status is written
pub hand_next : (get now : Ref → Record) (members : List Ref) (i : ℕ) (d owner : Ref) (mode : Mode) (after : Ref → Record) → now ≡ handed get (take i members) owner → i < length members → mode ≡ (now (get_or members i d)).mode → after ≡ put_at now (get_or members i d) (with_status mode owner (now (get_or members i d))) → after ≡ handed get (take (i + 1) members) owner
hand_next get now members i d owner mode after so_far within e written =
    let m = get_or members i d in
    written
    ∙ ap (λ (x : Mode). put_at now m (with_status x owner (now m))) e
    ∙ ap (λ (g : Ref → Record). put_at g m (with_status (g m).mode owner (g m))) so_far
    ∙ one_more get (take i members) m owner
    ∙ ap (λ l. handed get l owner) (sym (take_more members i d within))

pub hand_end : (get now : Ref → Record) (members : List Ref) (i : ℕ) (owner : Ref) → now ≡ handed get (take i members) owner → length members ≤ i → now ≡ handed get members owner
hand_end get now members i owner so_far over = so_far ∙ ap (λ l. handed get l owner) (take_all i members over)

-- no member has another owner
pub hand_start : (get : Ref → Record) (owner : Ref) → get ≡ handed get [] owner
unfolding is_in
hand_start get owner = refl

-- one record is written on a copy, and then the members pass on
pub settled : (h copy mid done : List Stored) (p owner : Ref) (written new : Record) (named members : List Ref) → copy ≡ h → look_up mid ≡ put_at (look_up copy) p written → written ≡ new → named ≡ members → look_up done ≡ handed (look_up mid) named owner → look_up done ≡ handed (put_at (look_up h) p new) members owner
settled h copy mid done p owner written new named members same put_there is set passed =
    passed
    ∙ ap (λ (g : Ref → Record). handed g named owner) (put_there ∙ ap (λ l. put_at (look_up l) p written) same ∙ ap (put_at (look_up h) p) is)
    ∙ ap (λ l. handed (put_at (look_up h) p new) l owner) set
