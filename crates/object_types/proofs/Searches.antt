-- What a fork's list has, looked up or changed in one of its sides or at its own record. The whole is the list of the first side, the record, and the list of the second.
use Rattle.std.proofs.Common.{◌≡◌, ◌≢◌, ℕ, ◌<◌, ◌⊎◌, inl, inr, true, false, cond, ◌&&◌, ◌==◌, List, [], ◌∷◌, ◌++◌, Option, Some, None, refl, sym, ap, subst, ◌∙◌, arith}
use Rattle.std.specs.Prelude.{nat_lt, is_some}
use Rattle.std.specs.List.{find}
use Rattle.std.specs.Option.{option_or, option_map}
use Rattle.std.proofs.lemmas.Bool.{both_ways, and_parts, and_from, and_left, and_right, or_cases, or_left, not_from_true, not_from_false, false_from_ne_true, eqb-true, ltb-true, lt-ltb, ne_eqb}
use Rattle.object_types.specs.declared.references.Ref.{Ref}
use Rattle.object_types.specs.declared.records.Stored.{Stored}
use Rattle.object_types.specs.declared.trees.Fork.{Fork}
use Rattle.object_types.specs.References.{ref, same_ref, ref_lt}
use Rattle.object_types.specs.Places.{ordered_from, is_ordered}
use Rattle.object_types.specs.Lookups.{reference_of, serial_of, stored_lt, is_blank, says_from, is_present}
use Rattle.object_types.specs.Trees.{in_order, stored_at, with_stored, first_from, find_last, newest_of}
use Rattle.object_types.proofs.Orders.{ref_order, same_turned}
use Rattle.object_types.proofs.Splits.{front_ordered, back_ordered, rest_ordered, front_before, before_higher, all_before, at_before, at_own, at_after, with_before, with_own, with_after, find_both, find_last_both, or_none}

-- the whole, and that it stands in order
pub record IsFork (whole xs : List Stored) (x : Stored) (ys : List Stored) : Type 0 where
  pub list : whole ≡ xs ++ x ∷ ys
  pub ordered : is_ordered stored_lt whole ≡ true

pub as_fork : (whole : List Stored) (v f : Fork) (x : Stored) → whole ≡ in_order v.before ++ v.stored.value ∷ in_order v.after → f ≡ v → x ≡ f.stored.value → is_ordered stored_lt whole ≡ true → IsFork whole (in_order f.before) x (in_order f.after)
as_fork whole v f x w e s k = record {
  list = w ∙ ap (λ (g : Fork). in_order g.before ++ g.stored.value ∷ in_order g.after) (sym e) ∙ ap (λ y. in_order f.before ++ y ∷ in_order f.after) (sym s);
  ordered = k;
}

in_pieces : (whole xs : List Stored) (x : Stored) (ys : List Stored) → IsFork whole xs x ys → is_ordered stored_lt (xs ++ x ∷ ys) ≡ true
in_pieces whole xs x ys f = subst (λ zs. is_ordered stored_lt zs ≡ true) f.list f.ordered

pub first_side : (whole xs : List Stored) (x : Stored) (ys : List Stored) → IsFork whole xs x ys → is_ordered stored_lt xs ≡ true
first_side whole xs x ys f = front_ordered reference_of ref_lt same_ref ref_order xs (x ∷ ys) (in_pieces whole xs x ys f)

pub second_side : (whole xs : List Stored) (x : Stored) (ys : List Stored) → IsFork whole xs x ys → is_ordered stored_lt ys ≡ true
second_side whole xs x ys f = back_ordered reference_of ref_lt same_ref ref_order xs x ys (in_pieces whole xs x ys f)

-- what is neither before a reference nor the same is after it
neither : (a b : Ref) → ref_lt a b ≡ false → same_ref b a ≡ false → ref_lt b a ≡ true
neither a b l s = ref_order.total a b (false_from_ne_true _ (λ e. both_ways _ s (same_turned ref_lt same_ref ref_order a b e))) l

pub find_first : (r : Option Stored) (whole xs : List Stored) (x : Stored) (ys : List Stored) (o : Ref) → IsFork whole xs x ys → ref_lt o x.reference ≡ true → r ≡ stored_at o xs → r ≡ stored_at o whole
find_first r whole xs x ys o f l e =
    e ∙ sym (ap (stored_at o) f.list ∙ at_before reference_of ref_lt same_ref ref_order o xs x ys (in_pieces whole xs x ys f) l)

pub find_own : (whole xs : List Stored) (x : Stored) (ys : List Stored) (o : Ref) → IsFork whole xs x ys → same_ref x.reference o ≡ true → Some x ≡ stored_at o whole
find_own whole xs x ys o f s =
    sym (ap (stored_at o) f.list ∙ at_own reference_of ref_lt same_ref ref_order o xs x ys (in_pieces whole xs x ys f) s)

pub find_second : (r : Option Stored) (whole xs : List Stored) (x : Stored) (ys : List Stored) (o : Ref) → IsFork whole xs x ys → ref_lt o x.reference ≡ false → same_ref x.reference o ≡ false → r ≡ stored_at o ys → r ≡ stored_at o whole
find_second r whole xs x ys o f l s e =
    e ∙ sym (ap (stored_at o) f.list ∙ at_after reference_of ref_lt same_ref ref_order o xs x ys (in_pieces whole xs x ys f) (neither o x.reference l s))

pub put_first : (t new whole xs : List Stored) (x : Stored) (ys : List Stored) (y : Stored) → IsFork whole xs x ys → ref_lt y.reference x.reference ≡ true → new ≡ with_stored y xs → t ≡ new ++ x ∷ ys → t ≡ with_stored y whole
put_first t new whole xs x ys y f l e g =
    g ∙ ap (λ zs. zs ++ x ∷ ys) e ∙ sym (ap (with_stored y) f.list ∙ with_before reference_of ref_lt same_ref ref_order y xs x ys l)

pub put_own : (t whole xs : List Stored) (x : Stored) (ys : List Stored) (y : Stored) → IsFork whole xs x ys → same_ref y.reference x.reference ≡ true → t ≡ xs ++ y ∷ ys → t ≡ with_stored y whole
put_own t whole xs x ys y f s g =
    g ∙ sym (ap (with_stored y) f.list ∙ with_own reference_of ref_lt same_ref ref_order y xs x ys (in_pieces whole xs x ys f) s)

pub put_second : (t new whole xs : List Stored) (x : Stored) (ys : List Stored) (y : Stored) → IsFork whole xs x ys → ref_lt y.reference x.reference ≡ false → same_ref y.reference x.reference ≡ false → new ≡ with_stored y ys → t ≡ xs ++ x ∷ new → t ≡ with_stored y whole
put_second t new whole xs x ys y f l s e g =
    let up : ref_lt x.reference y.reference ≡ true = ref_order.total y.reference x.reference s l in
    g ∙ ap (λ zs. xs ++ x ∷ zs) e ∙ sym (ap (with_stored y) f.list ∙ with_after reference_of ref_lt same_ref ref_order y xs x ys (in_pieces whole xs x ys f) up)

-- the first of two options that has a value
had : {X Y : Type 0} (h : X → Y) (o p : Option X) (y : Y) → Some y ≡ option_map h o → Some y ≡ option_map h (option_or o p)
had h None p y e = absurd (both_ways true (ap is_some e) refl)
had h (Some x) p y e = e

had_none : {X Y : Type 0} (h : X → Y) (o p : Option X) → None ≡ option_map h o → option_map h p ≡ option_map h (option_or o p)
had_none h None p e = refl
had_none h (Some x) p e = absurd (both_ways true (sym (ap is_some e)) refl)

silent_past : (from : Ref) (xs ys : List Stored) → all_before reference_of ref_lt same_ref ref_order from xs ≡ true → find (says_from from) (xs ++ ys) ≡ find (says_from from) ys
silent_past from [] ys h = refl
silent_past from (x ∷ xs) ys h =
    let parts = and_parts (ref_lt x.reference from) (all_before reference_of ref_lt same_ref ref_order from xs) h in
    let silent : says_from from x ≡ false = and_left _ _ (not_from_true _ parts.0) in
    ap (λ b. cond b (Some x) (find (says_from from) (xs ++ ys))) silent ∙ silent_past from xs ys parts.1

pub first_second : (r : Option Ref) (whole xs : List Stored) (x : Stored) (ys : List Stored) (from : Ref) → IsFork whole xs x ys → ref_lt x.reference from ≡ true → r ≡ first_from from ys → r ≡ first_from from whole
first_second r whole xs x ys from f l e =
    let below = before_higher reference_of ref_lt same_ref ref_order x.reference from xs l (front_before reference_of ref_lt same_ref ref_order xs x ys (in_pieces whole xs x ys f)) in
    let own : find (says_from from) (x ∷ ys) ≡ find (says_from from) ys = (let silent : says_from from x ≡ false = and_left _ _ (not_from_true _ l) in ap (λ b. cond b (Some x) (find (says_from from) ys)) silent) in
    e ∙ sym (ap (first_from from) f.list ∙ ap (option_map reference_of) (silent_past from xs (x ∷ ys) below ∙ own))

-- the search in both sides, put together
both_sides : (whole xs : List Stored) (x : Stored) (ys : List Stored) (from : Ref) → IsFork whole xs x ys → option_map reference_of (option_or (find (says_from from) xs) (find (says_from from) (x ∷ ys))) ≡ first_from from whole
both_sides whole xs x ys from f = sym (ap (first_from from) f.list ∙ ap (option_map reference_of) (find_both (says_from from) xs (x ∷ ys)))

pub first_first : (r : Ref) (whole xs : List Stored) (x : Stored) (ys : List Stored) (from : Ref) → IsFork whole xs x ys → Some r ≡ first_from from xs → Some r ≡ first_from from whole
first_first r whole xs x ys from f e = had reference_of (find (says_from from) xs) (find (says_from from) (x ∷ ys)) r e ∙ both_sides whole xs x ys from f

pub first_own : (whole xs : List Stored) (x : Stored) (ys : List Stored) (from : Ref) → IsFork whole xs x ys → None ≡ first_from from xs → ref_lt x.reference from ≡ false → is_blank x ≡ false → Some x.reference ≡ first_from from whole
first_own whole xs x ys from f n l b =
    let says : says_from from x ≡ true = and_from _ _ (not_from_false _ l) (not_from_false _ b) in
    let own : Some x.reference ≡ first_from from (x ∷ ys) = sym (ap (λ b. option_map reference_of (cond b (Some x) (find (says_from from) ys))) says) in
    own ∙ had_none reference_of (find (says_from from) xs) (find (says_from from) (x ∷ ys)) n ∙ both_sides whole xs x ys from f

pub first_last : (r : Option Ref) (whole xs : List Stored) (x : Stored) (ys : List Stored) (from : Ref) → IsFork whole xs x ys → None ≡ first_from from xs → is_blank x ≡ true → r ≡ first_from from ys → r ≡ first_from from whole
first_last r whole xs x ys from f n b e =
    let silent : says_from from x ≡ false = and_right _ _ (not_from_true _ b) in
    let own : first_from from ys ≡ first_from from (x ∷ ys) = sym (ap (λ b. option_map reference_of (cond b (Some x) (find (says_from from) ys))) silent) in
    e ∙ own ∙ had_none reference_of (find (says_from from) xs) (find (says_from from) (x ∷ ys)) n ∙ both_sides whole xs x ys from f

-- reference order by numbers
ref_lt_cases : (a b : Ref) → ref_lt a b ≡ true → (a.ty < b.ty) ⊎ ((a.ty ≡ b.ty) × (a.serial < b.serial))
ref_lt_cases a b h =
    elim (or_cases (nat_lt a.ty b.ty) ((a.ty == b.ty) && nat_lt a.serial b.serial) h) [
      | inl first ↦ inl (ltb-true _ _ first)
      | inr second ↦ let parts = and_parts (a.ty == b.ty) (nat_lt a.serial b.serial) second in inr (eqb-true _ _ parts.0, ltb-true _ _ parts.1)
    ]

other_type : (ty : ℕ) (s : Stored) → s.reference.ty ≢ ty → is_present ty s ≡ false
other_type ty s h = and_left _ _ (ne_eqb _ _ h)

abbrev own_of : ℕ → Stored → Option Stored
own_of ty s = cond (is_present ty s) (Some s) None

no_own : (ty : ℕ) (s : Stored) → is_present ty s ≡ false → own_of ty s ≡ None
no_own ty s h = ap (λ b. cond b (Some s) None) h

lower_type : (ty : ℕ) (s : Stored) → ref_lt s.reference (ref ty 0) ≡ true → is_present ty s ≡ false
lower_type ty s h = other_type ty s (λ e. elim (ref_lt_cases _ _ h) [ inl less ↦ (let lower : s.reference.ty < ty = less in omega arith) | inr (same, less) ↦ (let none : s.reference.serial < 0 = less in omega arith) ])

none_lower : (ty : ℕ) (xs : List Stored) → all_before reference_of ref_lt same_ref ref_order (ref ty 0) xs ≡ true → find_last (is_present ty) xs ≡ None
none_lower ty [] h = refl
none_lower ty (x ∷ xs) h =
    let parts = and_parts (ref_lt x.reference (ref ty 0)) (all_before reference_of ref_lt same_ref ref_order (ref ty 0) xs) h in
    ap (λ o. option_or o (own_of ty x)) (none_lower ty xs parts.1) ∙ no_own ty x (lower_type ty x parts.0)

none_higher : (ty : ℕ) (x : Stored) (ys : List Stored) → ordered_from stored_lt x ys ≡ true → ty < x.reference.ty → find_last (is_present ty) (x ∷ ys) ≡ None
none_higher ty x [] h l = no_own ty x (other_type ty x (λ e. omega arith))
none_higher ty x (y ∷ ys) h l =
    let parts = and_parts (stored_lt x y) (ordered_from stored_lt y ys) h in
    let up : ty < y.reference.ty = elim (ref_lt_cases x.reference y.reference parts.0) [ inl less ↦ omega arith | inr (same, less) ↦ omega arith ] in
    ap (λ o. option_or o (own_of ty x)) (none_higher ty y ys parts.1 up) ∙ no_own ty x (other_type ty x (λ e. omega arith))

-- the search from the end, in both sides
both_ends : (whole xs : List Stored) (x : Stored) (ys : List Stored) (ty : ℕ) → IsFork whole xs x ys → option_map serial_of (option_or (option_or (find_last (is_present ty) ys) (own_of ty x)) (find_last (is_present ty) xs)) ≡ newest_of ty whole
both_ends whole xs x ys ty f = sym (ap (newest_of ty) f.list ∙ ap (option_map serial_of) (find_last_both (is_present ty) xs (x ∷ ys)))

pub newest_second : (r : Option ℕ) (whole xs : List Stored) (x : Stored) (ys : List Stored) (ty : ℕ) → IsFork whole xs x ys → x.reference.ty < ty → r ≡ newest_of ty ys → r ≡ newest_of ty whole
newest_second r whole xs x ys ty f l e =
    let low : ref_lt x.reference (ref ty 0) ≡ true = or_left _ _ (lt-ltb _ _ l) in
    let below = before_higher reference_of ref_lt same_ref ref_order x.reference (ref ty 0) xs low (front_before reference_of ref_lt same_ref ref_order xs x ys (in_pieces whole xs x ys f)) in
    let last = find_last (is_present ty) ys in
    let own : option_or last (own_of ty x) ≡ last = ap (λ o. option_or last o) (no_own ty x (lower_type ty x low)) ∙ or_none last in
    let all : option_or (option_or last (own_of ty x)) (find_last (is_present ty) xs) ≡ last = ap (λ o. option_or (option_or last (own_of ty x)) o) (none_lower ty xs below) ∙ or_none _ ∙ own in
    e ∙ sym (ap (option_map serial_of) all) ∙ both_ends whole xs x ys ty f

pub newest_first : (r : Option ℕ) (whole xs : List Stored) (x : Stored) (ys : List Stored) (ty : ℕ) → IsFork whole xs x ys → ty < x.reference.ty → r ≡ newest_of ty xs → r ≡ newest_of ty whole
newest_first r whole xs x ys ty f l e =
    let none : option_or (find_last (is_present ty) ys) (own_of ty x) ≡ None = none_higher ty x ys (rest_ordered reference_of ref_lt same_ref ref_order xs x ys (in_pieces whole xs x ys f)) l in
    e ∙ sym (ap (λ o. option_map serial_of (option_or o (find_last (is_present ty) xs))) none) ∙ both_ends whole xs x ys ty f

pub newest_last : (n : ℕ) (whole xs : List Stored) (x : Stored) (ys : List Stored) (ty : ℕ) → IsFork whole xs x ys → Some n ≡ newest_of ty ys → Some n ≡ newest_of ty whole
newest_last n whole xs x ys ty f e =
    had serial_of (option_or (find_last (is_present ty) ys) (own_of ty x)) (find_last (is_present ty) xs) n (had serial_of (find_last (is_present ty) ys) (own_of ty x) n e) ∙ both_ends whole xs x ys ty f

pub newest_own : (whole xs : List Stored) (x : Stored) (ys : List Stored) (ty : ℕ) → IsFork whole xs x ys → None ≡ newest_of ty ys → is_present ty x ≡ true → Some x.reference.serial ≡ newest_of ty whole
newest_own whole xs x ys ty f n p =
    let own : Some x.reference.serial ≡ option_map serial_of (own_of ty x) = sym (ap (λ b. option_map serial_of (cond b (Some x) None)) p) in
    had serial_of (option_or (find_last (is_present ty) ys) (own_of ty x)) (find_last (is_present ty) xs) x.reference.serial (own ∙ had_none serial_of (find_last (is_present ty) ys) (own_of ty x) n) ∙ both_ends whole xs x ys ty f

pub newest_earlier : (r : Option ℕ) (whole xs : List Stored) (x : Stored) (ys : List Stored) (ty : ℕ) → IsFork whole xs x ys → None ≡ newest_of ty ys → is_present ty x ≡ false → r ≡ newest_of ty xs → r ≡ newest_of ty whole
newest_earlier r whole xs x ys ty f n p e =
    let none : None ≡ option_map serial_of (option_or (find_last (is_present ty) ys) (own_of ty x)) = sym (ap (option_map serial_of) (no_own ty x p)) ∙ had_none serial_of (find_last (is_present ty) ys) (own_of ty x) n in
    e ∙ had_none serial_of (option_or (find_last (is_present ty) ys) (own_of ty x)) (find_last (is_present ty) xs) none ∙ both_ends whole xs x ys ty f
