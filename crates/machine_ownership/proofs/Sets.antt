-- Sets that grow member by member, and a record's owned set that is cleared and made anew.
use Rattle.std.proofs.Common.{◌≡◌, ℕ, zero, suc, ◌+◌, ◌-◌, ◌^◌, ◌<◌, ◌≤◌, Bool, true, false, not, cond, ◌||◌, List, [], ◌∷◌, ◌++◌, length, get_or, take, Some, None, slice_get, refl, sym, ap, ◌∙◌, ◌⊎◌, inl, inr, arith}
use Rattle.std.specs.Prelude.{nat_lt}
use Rattle.std.specs.List.{find}
use Rattle.std.proofs.lemmas.Bool.{or_cases, or_right, both_ways, and_parts}
use Rattle.std.proofs.lemmas.List.{take_more, take_all}
use Rattle.std.proofs.lemmas.Option.{slice_get-get_or}
use Rattle.object_types.specs.declared.references.Ref.{Ref}
use Rattle.object_types.specs.declared.records.Stored.{Stored}
use Rattle.object_types.specs.References.{same_ref, ref_lt}
use Rattle.object_types.specs.Sets.{every, is_in, is_ordered, set_of, with_member, without_member}
use Rattle.object_types.specs.Heap.{Record, put_at}
use Rattle.object_types.specs.Lookups.{record_or_nothing, look_up, is_tidy}
use Rattle.object_types.proofs.Orders.{ref_order, same_turned}
use Rattle.object_types.proofs.Placed.{ordered_placed}
use Rattle.object_types.proofs.Members.{is_in_with}
use Rattle.method.proofs.Global.{in_set}
use Rattle.ownership.proofs.Lists.{in_append, in_one}
use Rattle.ownership.proofs.Ordered.{set_ordered, same_members}
use Rattle.claims.proofs.Putting.{put_there, put_twice, put_back}
use Rattle.machine_ownership.specs.Owned.{owning}

either_way : (a b : Bool) → (a || b) ≡ (b || a)
either_way true true = refl
either_way true false = refl
either_way false true = refl
either_way false false = refl

-- one member more, whichever end it comes from
set_more : (xs : List Ref) (x : Ref) → set_of (xs ++ x ∷ []) ≡ with_member x (set_of xs)
set_more xs x =
    same_members (set_of (xs ++ x ∷ [])) (with_member x (set_of xs)) (set_ordered (xs ++ x ∷ [])) (ordered_placed ref_lt same_ref ref_order x (set_of xs) (set_ordered xs))
    (λ q. in_set q (xs ++ x ∷ []) ∙ in_append q xs (x ∷ []) ∙ ap (λ b. is_in q xs || b) (in_one q x) ∙ either_way (is_in q xs) (same_ref q x)
    ∙ sym (is_in_with q x (set_of xs) ∙ ap (λ b. same_ref q x || b) (in_set q xs)))

pub set_next : (xs : List Ref) (i : ℕ) (d : Ref) (set after : List Ref) → set ≡ set_of (take i xs) → i < length xs → after ≡ with_member (get_or xs i d) set → after ≡ set_of (take (i + 1) xs)
set_next xs i d set after so_far within step =
    step ∙ ap (with_member (get_or xs i d)) so_far ∙ sym (set_more (take i xs) (get_or xs i d)) ∙ ap set_of (sym (take_more xs i d within))

pub set_end : (xs : List Ref) (i : ℕ) (set : List Ref) → set ≡ set_of (take i xs) → length xs ≤ i → set ≡ set_of xs
set_end xs i set so_far over = so_far ∙ ap set_of (take_all i xs over)

module _ (get now : Ref → Record) (o : Ref) where
  set_there : (xs : List Ref) → now ≡ put_at get o (owning (get o) xs) → (now o).owned ≡ xs
  set_there xs so_far = ap (λ (g : Ref → Record). (g o).owned) so_far ∙ ap (λ (r : Record). r.owned) (put_there get o (owning (get o) xs))

  pub owning_next : (after : Ref → Record) (xs ys : List Ref) → now ≡ put_at get o (owning (get o) xs) → after ≡ put_at now o (owning (now o) ys) → after ≡ put_at get o (owning (get o) ys)
  owning_next after xs ys so_far step =
      step ∙ ap (λ (g : Ref → Record). put_at g o (owning (g o) ys)) so_far
      ∙ ap (λ (q : Record). put_at (put_at get o (owning (get o) xs)) o (owning q ys)) (put_there get o (owning (get o) xs))
      ∙ put_twice get o (owning (get o) xs) (owning (get o) ys)

  pub assign_next : (xs : List Ref) (i : ℕ) (d : Ref) (after : Ref → Record) → now ≡ put_at get o (owning (get o) (set_of (take i xs))) → i < length xs → after ≡ put_at now o (owning (now o) (with_member (get_or xs i d) (now o).owned)) → after ≡ put_at get o (owning (get o) (set_of (take (i + 1) xs)))
  assign_next xs i d after so_far within step =
      owning_next after (set_of (take i xs)) (with_member (get_or xs i d) (now o).owned) so_far step
      ∙ ap (λ ys. put_at get o (owning (get o) ys)) (set_next xs i d (now o).owned _ (set_there (set_of (take i xs)) so_far) within refl)

  pub assign_end : (xs : List Ref) (i : ℕ) → now ≡ put_at get o (owning (get o) (set_of (take i xs))) → length xs ≤ i → now ≡ put_at get o (owning (get o) (set_of xs))
  assign_end xs i so_far over = so_far ∙ ap (λ ys. put_at get o (owning (get o) (set_of ys))) (take_all i xs over)

  pub clear_end : now ≡ put_at get o (owning (get o) (now o).owned) → (now o).owned ≡ [] → now ≡ put_at get o (owning (get o) [])
  clear_end so_far none = so_far ∙ ap (λ ys. put_at get o (owning (get o) ys)) none

-- nothing is taken out yet
pub clear_start : (get : Ref → Record) (o : Ref) → get ≡ put_at get o (owning (get o) (get o).owned)
clear_start get o = put_back get o (owning (get o) (get o).owned) refl

pub clear_next : (get now after : Ref → Record) (o m : Ref) → now ≡ put_at get o (owning (get o) (now o).owned) → after ≡ put_at now o (owning (now o) (without_member m (now o).owned)) → after ≡ put_at get o (owning (get o) (after o).owned)
clear_next get now after o m so_far step =
    let ys = without_member m (now o).owned in
    let there = owning_next get now o after (now o).owned ys so_far step in
    there ∙ ap (λ xs. put_at get o (owning (get o) xs)) (sym (set_there get after o ys there))

pub none_left : (xs : List Ref) → None ≡ slice_get xs (length xs - 1) → xs ≡ []
none_left [] e = refl
none_left (x ∷ xs) e = let there = slice_get-get_or (x ∷ xs) (length (x ∷ xs) - 1) x (omega arith) in absurd (cc (e, there))

-- a set without one of its members is shorter

no_longer : (m : Ref) (xs : List Ref) → length (without_member m xs) ≤ length xs
no_longer m [] = omega arith
no_longer m (x ∷ xs) = by_test (same_ref x m) (no_longer m xs)
  where
    by_test : (b : Bool) → length (without_member m xs) ≤ length xs → length (cond (not b) (x ∷ without_member m xs) (without_member m xs)) ≤ suc (length xs)
    by_test true rest = omega (arith, rest)
    by_test false rest = omega (arith, rest)

shorter : (m : Ref) (xs : List Ref) → is_in m xs ≡ true → length (without_member m xs) < length xs
unfolding is_in
shorter m [] e = absurd (cc)
shorter m (x ∷ xs) e = by_test (same_ref x m) refl (or_cases (same_ref m x) (is_in m xs) e) (λ later. shorter m xs later)
  where
    by_test : (b : Bool) → same_ref x m ≡ b → (same_ref m x ≡ true) ⊎ (is_in m xs ≡ true) → (is_in m xs ≡ true → length (without_member m xs) < length xs) → length (cond (not b) (x ∷ without_member m xs) (without_member m xs)) < suc (length xs)
    by_test true s place more = let rest = no_longer m xs in omega (arith, rest)
    by_test false s (inl here) more = absurd (both_ways _ s (same_turned ref_lt same_ref ref_order m x here))
    by_test false s (inr later) more = let rest = more later in omega (arith, rest)

got_in : (xs : List Ref) (k : ℕ) (m : Ref) → slice_get xs k ≡ Some m → is_in m xs ≡ true
unfolding is_in
got_in [] k m e = absurd (cc)
got_in (x ∷ xs) zero m e = let same : x ≡ m = cc in rw (← same, ref_order.itself x) refl
got_in (x ∷ xs) (suc k) m e = or_right (same_ref m x) (is_in m xs) (got_in xs k m e)

pub clear_smaller : (now after : Ref → Record) (o m : Ref) (xs : List Ref) → xs ≡ (now o).owned → Some m ≡ slice_get xs (length xs - 1) → after ≡ put_at now o (owning (now o) (without_member m (now o).owned)) → length (after o).owned < length (now o).owned
clear_smaller now after o m xs same last step =
    let set : (after o).owned ≡ without_member m (now o).owned = ap (λ (g : Ref → Record). (g o).owned) step ∙ ap (λ (r : Record). r.owned) (put_there now o (owning (now o) (without_member m (now o).owned))) in
    let less = shorter m (now o).owned (ap (is_in m) (sym same) ∙ got_in xs (length xs - 1) m (sym last)) in
    let e = ap length set in
    omega (arith, less, e)

-- sets that stand in order

pub set_again : (xs : List Ref) → is_ordered ref_lt xs ≡ true → set_of xs ≡ xs
set_again xs o = same_members (set_of xs) xs (set_ordered xs) o (λ q. in_set q xs)

pub owned_ordered : (ss : List Stored) (o : Ref) → every is_tidy ss ≡ true → is_ordered ref_lt (look_up ss o).owned ≡ true
owned_ordered [] o h = refl
owned_ordered (s ∷ ss) o h =
    let parts = and_parts (is_tidy s) (every is_tidy ss) h in
    by_test (same_ref o s.reference) (owned_ordered ss o parts.1) parts.0
  where
    by_test : (b : Bool) → is_ordered ref_lt (look_up ss o).owned ≡ true → is_tidy s ≡ true → is_ordered ref_lt (record_or_nothing (cond b (Some s) (find (λ t. same_ref o t.reference) ss))).owned ≡ true
    by_test true rest tidy =
        let first = and_parts (nat_lt s.reference.serial (2 ^ 32)) _ tidy in
        let second = and_parts (nat_lt s.reference.ty (2 ^ 32)) _ first.1 in
        (and_parts (is_ordered ref_lt s.owned) _ second.1).0
    by_test false rest tidy = rest
