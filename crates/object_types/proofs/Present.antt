-- What a heap's list has and lacks: the first record that says something, the newest object of a type.
use Rattle.std.proofs.Common.{◌≡◌, ℕ, suc, ◌+◌, ◌-◌, ◌<◌, ◌≤◌, ◌^◌, inl, inr, Bool, true, false, not, cond, ◌&&◌, ◌==◌, List, [], ◌∷◌, length, Option, Some, None, refl, sym, ap, subst, ◌∙◌, arith, pos, Bor}
use Rattle.std.specs.Prelude.{nat_lt, is_some, IfSome, IfNone}
use Rattle.std.specs.List.{find}
use Rattle.std.specs.Option.{option_or, option_map, option_copied, unwrap_or}
use Rattle.std.proofs.lemmas.Bool.{both_ways, cases_lt, and_parts, and_from, or_right, not-true, not_from_false, false_from_ne_true, eqb-true, eq-eqb, ltb-true, lt-ltb}
use Rattle.object_types.specs.declared.references.Ref.{Ref}
use Rattle.object_types.specs.declared.records.Mode.{Mode}
use Rattle.object_types.specs.declared.records.Mode.TheVariants.{Absent, Open, Closed, Freed}
use Rattle.object_types.specs.declared.records.Stored.{Stored}
use Rattle.object_types.specs.References.{ref, null, same_ref, is_null, ref_lt}
use Rattle.object_types.specs.Values.{is_zero_int}
use Rattle.object_types.specs.Places.{is_ordered}
use Rattle.object_types.specs.Sets.{every}
use Rattle.object_types.specs.Heap.{Record, nothing, is_absent}
use Rattle.object_types.specs.Fields.{field_in}
use Rattle.object_types.specs.Lookups.{reference_of, serial_of, stored_lt, record_of, record_or_nothing, look_up, is_tidy, is_blank, says_from, is_present, IsKept}
use Rattle.object_types.specs.Trees.{stored_at, first_from, find_last, newest_of}
use Rattle.object_types.specs.Content.{IsFirst, IsFresh, IsNewest}
use Rattle.object_types.proofs.Orders.{ref_order, int_order}
use Rattle.object_types.proofs.Placed.{tail_ordered, none_before_first, none_behind_first}
use Rattle.object_types.proofs.FieldChanges.{none_kept}

absent_is : (m : Mode) → is_absent m ≡ true → m ≡ Absent
absent_is Absent h = refl
absent_is Open h = cc
absent_is Closed h = cc
absent_is Freed h = cc

empty_is : {X : Type 0} (xs : List X) → (length xs == 0) ≡ true → xs ≡ []
empty_is [] h = refl
empty_is (x ∷ xs) h = absurd (let none : suc (length xs) ≡ 0 = eqb-true _ _ h in omega arith)

pub blank_is : (s : Stored) → is_blank s ≡ true → record_of s ≡ nothing
blank_is s h =
    let p6 = and_parts (is_absent s.mode && is_null s.owner && is_zero_int s.count && length s.owned == 0 && length s.fields == 0 && length s.listed == 0) (length s.shapes == 0) h in
    let p5 = and_parts (is_absent s.mode && is_null s.owner && is_zero_int s.count && length s.owned == 0 && length s.fields == 0) (length s.listed == 0) p6.0 in
    let p4 = and_parts (is_absent s.mode && is_null s.owner && is_zero_int s.count && length s.owned == 0) (length s.fields == 0) p5.0 in
    let p3 = and_parts (is_absent s.mode && is_null s.owner && is_zero_int s.count) (length s.owned == 0) p4.0 in
    let p2 = and_parts (is_absent s.mode && is_null s.owner) (is_zero_int s.count) p3.0 in
    let p1 = and_parts (is_absent s.mode) (is_null s.owner) p2.0 in
    let mode : s.mode ≡ Absent = absent_is s.mode p1.0 in
    let owner : s.owner ≡ null = ref_order.equal _ _ p1.1 in
    let count : s.count ≡ pos 0 = int_order.equal _ _ p2.1 in
    let owned : s.owned ≡ [] = empty_is s.owned p3.1 in
    let fields : s.fields ≡ [] = empty_is s.fields p4.1 in
    let listed : s.listed ≡ [] = empty_is s.listed p5.1 in
    let shapes : s.shapes ≡ [] = empty_is s.shapes p6.1 in
    λ i. record { mode = mode i; owner = owner i; count = count i; owned = owned i; fields = (λ f. field_in (fields i) f); listed = listed i; shapes = shapes i }

pub nothing_is_blank : (s : Stored) → record_of s ≡ nothing → is_blank s ≡ true
nothing_is_blank s h =
    let mode : s.mode ≡ Absent = ap (λ (r : Record). r.mode) h in
    let owner : s.owner ≡ null = ap (λ (r : Record). r.owner) h in
    let count : s.count ≡ pos 0 = ap (λ (r : Record). r.count) h in
    let owned : s.owned ≡ [] = ap (λ (r : Record). r.owned) h in
    let fields : s.fields ≡ [] = none_kept s.fields (λ f. ap (λ (r : Record). r.fields f) h) in
    let listed : s.listed ≡ [] = ap (λ (r : Record). r.listed) h in
    let shapes : s.shapes ≡ [] = ap (λ (r : Record). r.shapes) h in
    rw (mode, owner, count, owned, fields, listed, shapes) (rw (ref_order.itself null) refl)

no_some : {X : Type 0} (x : X) → ◌≡◌ {A = Option X} None (Some x) → ⊥
no_some x h = both_ways true (sym (ap is_some h)) refl

some_is : {X : Type 0} (x y : X) → ◌≡◌ {A = Option X} (Some x) (Some y) → x ≡ y
some_is x y h = ap (λ o. unwrap_or o x) h

-- no element passes
abbrev none_passes : {X : Type 0} → (X → Bool) → List X → Bool
none_passes passes xs = every (λ x. not (passes x)) xs

find_none : {X : Type 0} (passes : X → Bool) (xs : List X) → find passes xs ≡ None → none_passes passes xs ≡ true
find_none passes [] h = refl
find_none {X} passes (x ∷ xs) h =
    elim (passes x) as (λ b. ◌≡◌ {A = Option X} (cond b (Some x) (find passes xs)) None → (not b && none_passes passes xs) ≡ true) [
      | true ↦ λ n. absurd (no_some x (sym n))
      | false ↦ λ n. find_none passes xs n
    ] h

find_last_none : {X : Type 0} (passes : X → Bool) (xs : List X) → find_last passes xs ≡ None → none_passes passes xs ≡ true
find_last_none passes [] h = refl
find_last_none {X} passes (x ∷ xs) h =
    let rest : find_last passes xs ≡ None → none_passes passes xs ≡ true = λ e. find_last_none passes xs e in
    elim (find_last passes xs) as (λ o. find_last passes xs ≡ o → option_or o (cond (passes x) (Some x) None) ≡ None → (not (passes x) && none_passes passes xs) ≡ true) [
      | None ↦ λ e n. elim (passes x) as (λ b. ◌≡◌ {A = Option X} (cond b (Some x) None) None → (not b && none_passes passes xs) ≡ true) [
        | true ↦ λ m. absurd (no_some x (sym m))
        | false ↦ λ m. rest e
      ] n
      | Some y ↦ λ e n. absurd (no_some y (sym n))
    ] refl h

pub find_passes : {X : Type 0} (passes : X → Bool) (xs : List X) (y : X) → find passes xs ≡ Some y → passes y ≡ true
find_passes passes [] y h = absurd (no_some y h)
find_passes {X} passes (x ∷ xs) y h =
    elim (passes x) as (λ b. passes x ≡ b → ◌≡◌ {A = Option X} (cond b (Some x) (find passes xs)) (Some y) → passes y ≡ true) [
      | true ↦ λ e n. subst (λ z. passes z ≡ true) (some_is x y n) e
      | false ↦ λ e n. find_passes passes xs y n
    ] refl h

pub find_every : {X : Type 0} (test passes : X → Bool) (xs : List X) (y : X) → every test xs ≡ true → find passes xs ≡ Some y → test y ≡ true
find_every test passes [] y t h = absurd (no_some y h)
find_every {X} test passes (x ∷ xs) y t h =
    let parts = and_parts (test x) (every test xs) t in
    elim (passes x) as (λ b. ◌≡◌ {A = Option X} (cond b (Some x) (find passes xs)) (Some y) → test y ≡ true) [
      | true ↦ λ n. subst (λ z. test z ≡ true) (some_is x y n) parts.0
      | false ↦ λ n. find_every test passes xs y parts.1 n
    ] h

-- what holds of nothing and of each record with the reference holds of what a look-up gives; all records pass the test
look_up_by : (Q : Record → Type 0) (test : Stored → Bool) (q : Ref) (ss : List Stored) → every test ss ≡ true → Q nothing → ((s : Stored) → s.reference ≡ q → test s ≡ true → Q (record_of s)) → Q (look_up ss q)
look_up_by Q test q [] h n each = n
look_up_by Q test q (s ∷ ss) h n each =
    let parts = and_parts (test s) (every test ss) h in
    let rest : Q (look_up ss q) = look_up_by Q test q ss parts.1 n each in
    elim (same_ref q s.reference) as (λ b. same_ref q s.reference ≡ b → Q (record_or_nothing (cond b (Some s) (find (λ t. same_ref q t.reference) ss)))) [
      | true ↦ λ e. each s (sym (ref_order.equal _ _ e)) parts.0
      | false ↦ λ e. rest
    ] refl

look_up_head : (x : Stored) (xs : List Stored) → look_up (x ∷ xs) x.reference ≡ record_of x
look_up_head x xs = rw (ref_order.itself x.reference) refl

look_up_other : (x : Stored) (xs : List Stored) (q : Ref) → same_ref q x.reference ≡ false → look_up (x ∷ xs) q ≡ look_up xs q
look_up_other x xs q h = rw h refl

before_head : (x : Stored) (xs : List Stored) (q : Ref) → is_ordered stored_lt (x ∷ xs) ≡ true → ref_lt q x.reference ≡ true → look_up (x ∷ xs) q ≡ nothing
before_head x xs q k l = ap record_or_nothing (none_before_first reference_of ref_lt same_ref ref_order q x xs k l)

once : (x : Stored) (xs : List Stored) → is_ordered stored_lt (x ∷ xs) ≡ true → look_up xs x.reference ≡ nothing
once x xs k = ap record_or_nothing (none_behind_first reference_of ref_lt same_ref ref_order x xs k)

tail_kept : (x : Stored) (xs : List Stored) → is_ordered stored_lt (x ∷ xs) ≡ true → is_ordered stored_lt xs ≡ true
tail_kept x xs k = tail_ordered reference_of ref_lt same_ref ref_order x xs k

-- what a search by reference gives
pub found_record : (r : Option (Bor Stored)) (ss : List Stored) (o : Ref) → option_copied r ≡ stored_at o ss → IfSome r (λ s. look_up ss o ≡ record_of s.now)
found_record None ss o e = tt
found_record (Some s) ss o e = ap record_or_nothing (sym e)

pub found_nothing : (r : Option (Bor Stored)) (ss : List Stored) (o : Ref) → option_copied r ≡ stored_at o ss → IfNone r (look_up ss o ≡ nothing)
found_nothing None ss o e = ap record_or_nothing (sym e)
found_nothing (Some s) ss o e = tt

pub found_reference : (r : Option (Bor Stored)) (ss : List Stored) (o : Ref) → option_copied r ≡ stored_at o ss → IfSome r (λ s. s.now.reference ≡ o)
found_reference None ss o e = tt
found_reference (Some s) ss o e = sym (ref_order.equal _ _ (find_passes (λ t. same_ref o t.reference) ss s.now (sym e)))

pub found_tidy : (r : Option (Bor Stored)) (ss : List Stored) (o : Ref) → IsKept ss → option_copied r ≡ stored_at o ss → IfSome r (λ s. is_tidy s.now ≡ true)
found_tidy None ss o k e = tt
found_tidy (Some s) ss o k e = find_every is_tidy (λ t. same_ref o t.reference) ss s.now k.tidy (sym e)

-- what a search for the first that says something gives
blank_from : (from : Ref) (s : Stored) → ref_lt s.reference from ≡ false → says_from from s ≡ false → is_blank s ≡ true
blank_from from s above silent =
    let up : not (ref_lt s.reference from) ≡ true = not_from_false _ above in
    elim (is_blank s) as (λ b. (not (ref_lt s.reference from) && not b) ≡ false → b ≡ true) [ true ↦ λ h. refl | false ↦ λ h. absurd (both_ways _ h (and_from _ _ up refl)) ] silent

first_here : (x : Stored) (xs : List Stored) (from : Ref) → is_ordered stored_lt (x ∷ xs) ≡ true → says_from from x ≡ true → IsFirst (look_up (x ∷ xs)) from x.reference
first_here x xs from k e =
    let parts = and_parts (not (ref_lt x.reference from)) (not (is_blank x)) e in
    record {
      at_or_above = not-true _ parts.0;
      something = λ none. both_ways _ (not-true _ parts.1) (nothing_is_blank x (sym (look_up_head x xs) ∙ none));
      nothing_before = λ q above under. before_head x xs q k under;
    }

first_later : (x : Stored) (xs : List Stored) (from r : Ref) → is_ordered stored_lt (x ∷ xs) ≡ true → says_from from x ≡ false → IsFirst (look_up xs) from r → IsFirst (look_up (x ∷ xs)) from r
first_later x xs from r k e f =
    let other : same_ref r x.reference ≡ false = false_from_ne_true _ (λ same. f.something (ap (look_up xs) (ref_order.equal _ _ same) ∙ once x xs k)) in
    record {
      at_or_above = f.at_or_above;
      something = λ none. f.something (sym (look_up_other x xs r other) ∙ none);
      nothing_before = λ q above under.
          elim (same_ref q x.reference) as (λ b. same_ref q x.reference ≡ b → look_up (x ∷ xs) q ≡ nothing) [
            | true ↦ λ same.
                let q_is : q ≡ x.reference = ref_order.equal _ _ same in
                ap (look_up (x ∷ xs)) q_is ∙ look_up_head x xs ∙ blank_is x (blank_from from x (subst (λ p. ref_lt p from ≡ false) q_is above) e)
            | false ↦ λ same. look_up_other x xs q same ∙ f.nothing_before q above under
          ] refl;
    }

first_is : (ss : List Stored) (from : Ref) (s : Stored) → is_ordered stored_lt ss ≡ true → find (says_from from) ss ≡ Some s → IsFirst (look_up ss) from s.reference
first_is [] from s k h = absurd (no_some s h)
first_is (x ∷ xs) from s k h =
    let next : find (says_from from) xs ≡ Some s → IsFirst (look_up xs) from s.reference = λ e. first_is xs from s (tail_kept x xs k) e in
    elim (says_from from x) as (λ b. says_from from x ≡ b → ◌≡◌ {A = Option Stored} (cond b (Some x) (find (says_from from) xs)) (Some s) → IsFirst (look_up (x ∷ xs)) from s.reference) [
      | true ↦ λ e n. subst (λ (t : Stored). IsFirst (look_up (x ∷ xs)) from t.reference) (some_is x s n) (first_here x xs from k e)
      | false ↦ λ e n. first_later x xs from s.reference k e (next n)
    ] refl h

pub first_gives : (r : Option Ref) (ss : List Stored) (from : Ref) → IsKept ss → r ≡ first_from from ss → IfSome r (λ q. IsFirst (look_up ss) from q)
first_gives r ss from k e =
    let by_search : IfSome (first_from from ss) (λ q. IsFirst (look_up ss) from q) =
    elim (find (says_from from) ss) as (λ o. find (says_from from) ss ≡ o → IfSome (option_map reference_of o) (λ q. IsFirst (look_up ss) from q)) [ None ↦ λ f. tt | Some s ↦ λ f. first_is ss from s k.ordered f ] refl in
    subst (λ o. IfSome o (λ q. IsFirst (look_up ss) from q)) (sym e) by_search

pub first_lacks : (r : Option Ref) (ss : List Stored) (from : Ref) → r ≡ first_from from ss → IfNone r ((q : Ref) → ref_lt q from ≡ false → look_up ss q ≡ nothing)
first_lacks r ss from e =
    let by_search : IfNone (first_from from ss) ((q : Ref) → ref_lt q from ≡ false → look_up ss q ≡ nothing) =
    elim (find (says_from from) ss) as (λ o. find (says_from from) ss ≡ o → IfNone (option_map reference_of o) ((q : Ref) → ref_lt q from ≡ false → look_up ss q ≡ nothing)) [
      | None ↦ λ f q above. look_up_by (λ r. r ≡ nothing) (λ s. not (says_from from s)) q ss (find_none (says_from from) ss f) refl (λ s at silent. blank_is s (blank_from from s (subst (λ p. ref_lt p from ≡ false) (sym at) above) (not-true _ silent)))
      | Some s ↦ λ f. tt
    ] refl in
    subst (λ o. IfNone o ((q : Ref) → ref_lt q from ≡ false → look_up ss q ≡ nothing)) (sym e) by_search

-- reference order within a type
ref_lt_serials : (ty a b : ℕ) → a < b → ref_lt (ref ty a) (ref ty b) ≡ true
ref_lt_serials ty a b h = or_right _ _ (and_from _ _ (eq-eqb ty ty refl) (lt-ltb a b h))

abbrev last : ℕ → Ref
last ty = ref ty 4294967295

absent_unless : (ty t : ℕ) (s : Stored) → s.reference ≡ ref ty t → t < 4294967295 → is_present ty s ≡ false → is_absent s.mode ≡ true
absent_unless ty t s at below silent =
    let its_type : (s.reference.ty == ty) ≡ true = eq-eqb _ _ (ap (λ (r : Ref). r.ty) at) in
    let serial : s.reference.serial ≡ t = ap (λ (r : Ref). r.serial) at in
    let its_serial : nat_lt s.reference.serial 4294967295 ≡ true = lt-ltb _ _ (omega arith) in
    elim (is_absent s.mode) as (λ b. ((s.reference.ty == ty) && (nat_lt s.reference.serial 4294967295 && not b)) ≡ false → b ≡ true) [
      | true ↦ λ h. refl
      | false ↦ λ h. absurd (both_ways _ h (and_from _ _ its_type (and_from _ _ its_serial refl)))
    ] silent

newest_none : (ss : List Stored) (ty t : ℕ) → find_last (is_present ty) ss ≡ None → t < 4294967295 → is_absent (look_up ss (ref ty t)).mode ≡ true
newest_none ss ty t h below = look_up_by (λ r. is_absent r.mode ≡ true) (λ s. not (is_present ty s)) (ref ty t) ss (find_last_none (is_present ty) ss h) refl (λ s at silent. absent_unless ty t s at below (not-true _ silent))

absent_where_nothing : (ss : List Stored) (q : Ref) → look_up ss q ≡ nothing → is_absent (look_up ss q).mode ≡ true
absent_where_nothing ss q h = subst (λ (r : Record). is_absent r.mode ≡ true) (sym h) refl

newest_here : (x : Stored) (xs : List Stored) (ty : ℕ) → is_present ty x ≡ true → find_last (is_present ty) xs ≡ None → IsNewest (look_up (x ∷ xs)) ty x.reference.serial
newest_here x xs ty p none =
    let parts = and_parts (x.reference.ty == ty) (nat_lt x.reference.serial 4294967295 && not (is_absent x.mode)) p in
    let others = and_parts (nat_lt x.reference.serial 4294967295) (not (is_absent x.mode)) parts.1 in
    let ty_is : x.reference.ty ≡ ty = eqb-true _ _ parts.0 in
    let r_is : x.reference ≡ ref ty x.reference.serial = λ n. record { ty = ty_is n; serial = x.reference.serial } in
    record {
      below_last = ltb-true _ _ others.0;
      present = subst (λ r. is_absent (look_up (x ∷ xs) r).mode ≡ false) r_is (subst (λ (r : Record). is_absent r.mode ≡ false) (sym (look_up_head x xs)) (not-true _ others.1));
      above = λ t up below.
          let other : same_ref (ref ty t) x.reference ≡ false = false_from_ne_true _ (λ same. let serial : t ≡ x.reference.serial = ap (λ (r : Ref). r.serial) (ref_order.equal _ _ same) in omega arith) in
          subst (λ (r : Record). is_absent r.mode ≡ true) (sym (look_up_other x xs (ref ty t) other)) (newest_none xs ty t none below);
    }

newest_later : (x : Stored) (xs : List Stored) (ty n : ℕ) → is_ordered stored_lt (x ∷ xs) ≡ true → IsNewest (look_up xs) ty n → IsNewest (look_up (x ∷ xs)) ty n
newest_later x xs ty n k f =
    let other : same_ref (ref ty n) x.reference ≡ false = false_from_ne_true _ (λ same. both_ways _ f.present (absent_where_nothing xs (ref ty n) (ap (look_up xs) (ref_order.equal _ _ same) ∙ once x xs k))) in
    let there : is_absent (look_up (x ∷ xs) (ref ty n)).mode ≡ false = subst (λ (r : Record). is_absent r.mode ≡ false) (sym (look_up_other x xs (ref ty n) other)) f.present in
    record {
      below_last = f.below_last;
      present = there;
      above = λ t up below.
          elim (same_ref (ref ty t) x.reference) as (λ b. same_ref (ref ty t) x.reference ≡ b → is_absent (look_up (x ∷ xs) (ref ty t)).mode ≡ true) [
            | true ↦ λ same.
                let lower : ref_lt (ref ty n) x.reference ≡ true = subst (λ r. ref_lt (ref ty n) r ≡ true) (ref_order.equal _ _ same) (ref_lt_serials ty n t up) in
                absurd (both_ways _ there (absent_where_nothing (x ∷ xs) (ref ty n) (before_head x xs (ref ty n) k lower)))
            | false ↦ λ same. subst (λ (r : Record). is_absent r.mode ≡ true) (sym (look_up_other x xs (ref ty t) same)) (f.above t up below)
          ] refl;
    }

newest_is : (ss : List Stored) (ty : ℕ) (s : Stored) → is_ordered stored_lt ss ≡ true → find_last (is_present ty) ss ≡ Some s → IsNewest (look_up ss) ty s.reference.serial
newest_is [] ty s k h = absurd (no_some s h)
newest_is (x ∷ xs) ty s k h =
    let next : find_last (is_present ty) xs ≡ Some s → IsNewest (look_up xs) ty s.reference.serial = λ e. newest_is xs ty s (tail_kept x xs k) e in
    elim (find_last (is_present ty) xs) as (λ o. find_last (is_present ty) xs ≡ o → option_or o (cond (is_present ty x) (Some x) None) ≡ Some s → IsNewest (look_up (x ∷ xs)) ty s.reference.serial) [
      | None ↦ λ none n. elim (is_present ty x) as (λ b. is_present ty x ≡ b → ◌≡◌ {A = Option Stored} (cond b (Some x) None) (Some s) → IsNewest (look_up (x ∷ xs)) ty s.reference.serial) [
        | true ↦ λ p m. subst (λ (t : Stored). IsNewest (look_up (x ∷ xs)) ty t.reference.serial) (some_is x s m) (newest_here x xs ty p none)
        | false ↦ λ p m. absurd (no_some s m)
      ] refl n
      | Some y ↦ λ e n. newest_later x xs ty s.reference.serial k (next (e ∙ n))
    ] refl h

pub newest_gives : (r : Option ℕ) (ss : List Stored) (ty : ℕ) → IsKept ss → r ≡ newest_of ty ss → IfSome r (λ n. IsNewest (look_up ss) ty n)
newest_gives r ss ty k e =
    let by_search : IfSome (newest_of ty ss) (λ n. IsNewest (look_up ss) ty n) =
    elim (find_last (is_present ty) ss) as (λ o. find_last (is_present ty) ss ≡ o → IfSome (option_map serial_of o) (λ n. IsNewest (look_up ss) ty n)) [ None ↦ λ f. tt | Some s ↦ λ f. newest_is ss ty s k.ordered f ] refl in
    subst (λ o. IfSome o (λ n. IsNewest (look_up ss) ty n)) (sym e) by_search

pub newest_lacks : (r : Option ℕ) (ss : List Stored) (ty : ℕ) → r ≡ newest_of ty ss → IfNone r ((t : ℕ) → t < 4294967295 → is_absent (look_up ss (ref ty t)).mode ≡ true)
newest_lacks r ss ty e =
    let by_search : IfNone (newest_of ty ss) ((t : ℕ) → t < 4294967295 → is_absent (look_up ss (ref ty t)).mode ≡ true) =
    elim (find_last (is_present ty) ss) as (λ o. find_last (is_present ty) ss ≡ o → IfNone (option_map serial_of o) ((t : ℕ) → t < 4294967295 → is_absent (look_up ss (ref ty t)).mode ≡ true)) [
      | None ↦ λ f t below. newest_none ss ty t f below
      | Some s ↦ λ f. tt
    ] refl in
    subst (λ o. IfNone o ((t : ℕ) → t < 4294967295 → is_absent (look_up ss (ref ty t)).mode ≡ true)) (sym e) by_search

-- no record has a serial past 32 bits
absent_past : (ss : List Stored) (ty t : ℕ) → IsKept ss → 4294967296 ≤ t → is_absent (look_up ss (ref ty t)).mode ≡ true
absent_past ss ty t k past =
    look_up_by (λ r. is_absent r.mode ≡ true) is_tidy (ref ty t) ss k.tidy refl (λ s at tidy.
    let its_serial : s.reference.serial ≡ t = ap (λ (q : Ref). q.serial) at in
    let fits : s.reference.serial < 4294967296 = ltb-true _ _ (and_parts (nat_lt s.reference.serial (2 ^ 32)) _ tidy).0 in
    absurd (omega arith))

absent_from_last : (ss : List Stored) (ty t : ℕ) → IsKept ss → is_absent (look_up ss (last ty)).mode ≡ true → 4294967295 ≤ t → is_absent (look_up ss (ref ty t)).mode ≡ true
absent_from_last ss ty t k at_last h =
    elim (cases_lt t 4294967296) [
      | inl less ↦ let t_is : 4294967295 ≡ t = omega arith in subst (λ n. is_absent (look_up ss (ref ty n)).mode ≡ true) t_is at_last
      | inr past ↦ absent_past ss ty t k past
    ]

pub fresh_above : (ss : List Stored) (ty serial : ℕ) → IsKept ss → is_absent (look_up ss (last ty)).mode ≡ true → IsNewest (look_up ss) ty serial → IsFresh (look_up ss) ty (serial + 1)
fresh_above ss ty serial k at_last n = record {
  from_one = omega arith;
  above = λ t h. elim (cases_lt t 4294967295) [ inl below ↦ n.above t (omega arith) below | inr past ↦ absent_from_last ss ty t k at_last past ];
  below = λ other. let back : serial ≡ (serial + 1) - 1 = omega arith in subst (λ m. is_absent (look_up ss (ref ty m)).mode ≡ false) back n.present;
}

pub fresh_first : (ss : List Stored) (ty : ℕ) → IsKept ss → is_absent (look_up ss (last ty)).mode ≡ true → ((t : ℕ) → t < 4294967295 → is_absent (look_up ss (ref ty t)).mode ≡ true) → IsFresh (look_up ss) ty 1
fresh_first ss ty k at_last none = record {
  from_one = omega arith;
  above = λ t h. elim (cases_lt t 4294967295) [ inl below ↦ none t below | inr past ↦ absent_from_last ss ty t k at_last past ];
  below = λ other. absurd (other refl);
}
