-- What a list that stands in the order of its keys has at the place of a key, and how it changes there.
use Rattle.std.proofs.Common.{◌≡◌, ℕ, suc, zero, ◌<◌, ◌≤◌, Bool, true, false, not, cond, List, [], ◌∷◌, length, get_or, set, Option, Some, None, refl, sym, ap, subst, ◌∙◌, inl, inr, arith}
use Rattle.std.specs.List.{insert, remove, find, filter}
use Rattle.std.specs.List.Sorted.{IsPartitionPoint, IsPartitionedBy}
use Rattle.std.proofs.lemmas.Bool.{both_ways, cases_lt, and_parts, and_from, false_from_ne_true}
use Rattle.object_types.specs.Places.{ordered_from, is_ordered, place, placed, replaced, taken_out, IsAt, GoesAt}
use Rattle.object_types.specs.Sets.{every}
use Rattle.object_types.proofs.Orders.{IsOrder, apart, apart_turned, same_turned}

-- `partition_point` finds the place
pub place_from_point : {X : Type 0} (p : X → Bool) (xs : List X) (i : ℕ) → i ≤ length xs → IsPartitionPoint (λ y. p y ≡ true) (λ y. p y ≡ false) xs i → place p xs ≡ i
place_from_point p [] zero h point = refl
place_from_point p [] (suc i) h point = absurd (omega arith)
place_from_point p (x ∷ xs) zero h point = rw (point.1 0 x (omega arith) (omega arith)) refl
place_from_point p (x ∷ xs) (suc i) h point =
    rw (point.0 0 x (omega arith) (omega arith)) (ap suc (place_from_point p xs i (omega arith) (λ k d low high. point.0 (suc k) d (omega arith) (omega arith), λ k d low high. point.1 (suc k) d (omega arith) (omega arith))))

pub every_filter : {X : Type 0} (test keep : X → Bool) (xs : List X) → every test xs ≡ true → every test (filter keep xs) ≡ true
every_filter test keep [] h = refl
every_filter test keep (x ∷ xs) h =
    let parts = and_parts (test x) (every test xs) h in
    let rest : every test (filter keep xs) ≡ true = every_filter test keep xs parts.1 in
    elim (keep x) as (λ b. every test (cond b (x ∷ filter keep xs) (filter keep xs)) ≡ true) [ true ↦ and_from _ _ parts.0 rest | false ↦ rest ]

module _ {X K : Type 0} (key : X → K) (before same : K → K → Bool) (o : IsOrder before same) where
  abbrev pub key_lt : X → X → Bool
  key_lt a b = before (key a) (key b)

  abbrev pub below : K → X → Bool
  below k y = before (key y) k

  pub after_first : (x : X) (ys : List X) (j : ℕ) (d : X) → ordered_from key_lt x ys ≡ true → j < length ys → before (key x) (key (get_or ys j d)) ≡ true
  after_first x [] j d h l = absurd (omega arith)
  after_first x (y ∷ ys) zero d h l = (and_parts (key_lt x y) (ordered_from key_lt y ys) h).0
  after_first x (y ∷ ys) (suc j) d h l =
      let parts = and_parts (key_lt x y) (ordered_from key_lt y ys) h in
      o.chain _ _ _ parts.0 (after_first y ys j d parts.1 (omega arith))

  pub tail_ordered : (x : X) (xs : List X) → ordered_from key_lt x xs ≡ true → is_ordered key_lt xs ≡ true
  tail_ordered x [] h = refl
  tail_ordered x (y ∷ ys) h = (and_parts (key_lt x y) (ordered_from key_lt y ys) h).1

  pub earlier_below : (xs : List X) (i j : ℕ) (d : X) → is_ordered key_lt xs ≡ true → i < j → j < length xs → before (key (get_or xs i d)) (key (get_or xs j d)) ≡ true
  earlier_below [] i j d h l m = absurd (omega arith)
  earlier_below (x ∷ xs) i zero d h l m = absurd (omega arith)
  earlier_below (x ∷ xs) zero (suc j) d h l m = after_first x xs j d h (omega arith)
  earlier_below (x ∷ xs) (suc i) (suc j) d h l m = earlier_below xs i j d (tail_ordered x xs h) (omega arith) (omega arith)

  -- what is below a key comes before what isn't
  pub partitioned : (k : K) (xs : List X) → is_ordered key_lt xs ≡ true → IsPartitionedBy (below k) xs
  partitioned k xs h i j d l m under =
      elim (cases_lt i j) [
        | inl less ↦ o.chain _ _ _ (earlier_below xs i j d h less m) under
        | inr e ↦
            let at_j : j ≡ i = omega arith in
            subst (λ n. before (key (get_or xs n d)) k ≡ true) at_j under
      ]

  -- the element at the place of k has the key k
  abbrev pub Has : K → List X → X → Type 0
  Has k xs d = (place (below k) xs < length xs) × (same (key (get_or xs (place (below k) xs) d)) k ≡ true)

  -- no element has the key k, since the one at its place hasn't
  abbrev pub Lacks : K → List X → X → Type 0
  Lacks k xs d = place (below k) xs < length xs → same (key (get_or xs (place (below k) xs) d)) k ≡ false

  lacks_turned : (a b : K) → same a b ≡ false → same b a ≡ false
  lacks_turned a b h = false_from_ne_true _ (λ s. both_ways _ h (same_turned before same o b a s))

  pub set_is_replaced : (x : X) (xs : List X) (d : X) → Has (key x) xs d → set xs (place (below (key x)) xs) x ≡ replaced key before same x xs
  set_is_replaced x [] d (l, s) = absurd (omega arith)
  set_is_replaced x (y ∷ ys) d (l, s) =
      let next : Has (key x) ys d → set ys (place (below (key x)) ys) x ≡ replaced key before same x ys = set_is_replaced x ys d in
      elim (before (key y) (key x)) as (λ b. before (key y) (key x) ≡ b → cond b (suc (place (below (key x)) ys)) 0 < suc (length ys) → same (key (get_or (y ∷ ys) (cond b (suc (place (below (key x)) ys)) 0) d)) (key x) ≡ true → set (y ∷ ys) (cond b (suc (place (below (key x)) ys)) 0) x ≡ replaced key before same x (y ∷ ys)) [
        | true ↦ λ e l2 s2. rw (apart_turned before same o _ _ e, o.one_way _ _ e) (ap (λ zs. y ∷ zs) (next (omega arith, s2)))
        | false ↦ λ e l2 s2. rw (same_turned before same o _ _ s2) refl
      ] refl l s

  pub insert_is_replaced : (x : X) (xs : List X) (d : X) → Lacks (key x) xs d → insert xs (place (below (key x)) xs) x ≡ replaced key before same x xs
  insert_is_replaced x [] d h = refl
  insert_is_replaced x (y ∷ ys) d h =
      let next : Lacks (key x) ys d → insert ys (place (below (key x)) ys) x ≡ replaced key before same x ys = insert_is_replaced x ys d in
      elim (before (key y) (key x)) as (λ b. before (key y) (key x) ≡ b → (cond b (suc (place (below (key x)) ys)) 0 < suc (length ys) → same (key (get_or (y ∷ ys) (cond b (suc (place (below (key x)) ys)) 0) d)) (key x) ≡ false) → insert (y ∷ ys) (cond b (suc (place (below (key x)) ys)) 0) x ≡ replaced key before same x (y ∷ ys)) [
        | true ↦ λ e h2. rw (apart_turned before same o _ _ e, o.one_way _ _ e) (ap (λ zs. y ∷ zs) (next (λ l. h2 (omega arith))))
        | false ↦ λ e h2.
            let other : same (key y) (key x) ≡ false = h2 (omega arith) in
            rw (lacks_turned _ _ other, o.total _ _ other e) refl
      ] refl h

  -- what is above all later keys is none of them
  none_taken : (k : K) (x : X) (ys : List X) → ((z : K) → before (key x) z ≡ true → before k z ≡ true) → ordered_from key_lt x ys ≡ true → taken_out key same k ys ≡ ys
  none_taken k x [] low h = refl
  none_taken k x (y ∷ ys) low h =
      let parts = and_parts (key_lt x y) (ordered_from key_lt y ys) h in
      let other = apart_turned before same o _ _ (low (key y) parts.0) in
      rw other (ap (λ zs. y ∷ zs) (none_taken k y ys (λ z up. o.chain _ _ _ (low (key y) parts.0) up) parts.1))

  pub remove_is_taken_out : (k : K) (xs : List X) (d : X) → is_ordered key_lt xs ≡ true → Has k xs d → remove xs (place (below k) xs) ≡ taken_out key same k xs
  remove_is_taken_out k [] d h (l, s) = absurd (omega arith)
  remove_is_taken_out k (y ∷ ys) d h (l, s) =
      let next : Has k ys d → remove ys (place (below k) ys) ≡ taken_out key same k ys = remove_is_taken_out k ys d (tail_ordered y ys h) in
      elim (before (key y) k) as (λ b. before (key y) k ≡ b → cond b (suc (place (below k) ys)) 0 < suc (length ys) → same (key (get_or (y ∷ ys) (cond b (suc (place (below k) ys)) 0) d)) k ≡ true → remove (y ∷ ys) (cond b (suc (place (below k) ys)) 0) ≡ taken_out key same k (y ∷ ys)) [
        | true ↦ λ e l2 s2. rw (apart before same o _ _ e) (ap (λ zs. y ∷ zs) (next (omega arith, s2)))
        | false ↦ λ e l2 s2. rw s2 (sym (none_taken k y ys (λ z up. subst (λ a. before a z ≡ true) (o.equal _ _ s2) up) h))
      ] refl l s

  pub lacking_taken_out : (k : K) (xs : List X) (d : X) → is_ordered key_lt xs ≡ true → Lacks k xs d → taken_out key same k xs ≡ xs
  lacking_taken_out k [] d h a = refl
  lacking_taken_out k (y ∷ ys) d h a =
      let next : Lacks k ys d → taken_out key same k ys ≡ ys = lacking_taken_out k ys d (tail_ordered y ys h) in
      elim (before (key y) k) as (λ b. before (key y) k ≡ b → (cond b (suc (place (below k) ys)) 0 < suc (length ys) → same (key (get_or (y ∷ ys) (cond b (suc (place (below k) ys)) 0) d)) k ≡ false) → taken_out key same k (y ∷ ys) ≡ y ∷ ys) [
        | true ↦ λ e a2. rw (apart before same o _ _ e) (ap (λ zs. y ∷ zs) (next (λ l. a2 (omega arith))))
        | false ↦ λ e a2.
            let other : same (key y) k ≡ false = a2 (omega arith) in
            rw other (ap (λ zs. y ∷ zs) (none_taken k y ys (λ z up. o.chain _ _ _ (o.total _ _ other e) up) h))
      ] refl a

  -- what a look-up gives
  abbrev pub at_key : K → List X → Option X
  at_key q xs = find (λ e. same q (key e)) xs

  pub at_key_replaced : (q : K) (x : X) (xs : List X) → at_key q (replaced key before same x xs) ≡ cond (same q (key x)) (Some x) (at_key q xs)
  at_key_replaced q x [] = refl
  at_key_replaced q x (y ∷ ys) =
      let rest : at_key q (replaced key before same x ys) ≡ cond (same q (key x)) (Some x) (at_key q ys) = at_key_replaced q x ys in
      elim (same (key x) (key y)) as (λ b. same (key x) (key y) ≡ b → at_key q (cond b (x ∷ ys) (cond (before (key x) (key y)) (x ∷ y ∷ ys) (y ∷ replaced key before same x ys))) ≡ cond (same q (key x)) (Some x) (cond (same q (key y)) (Some y) (at_key q ys))) [
        | true ↦ λ e. elim (same q (key x)) as (λ b. same q (key x) ≡ b → cond b (Some x) (at_key q ys) ≡ cond b (Some x) (cond (same q (key y)) (Some y) (at_key q ys))) [
          | true ↦ λ s. refl
          | false ↦ λ s. rw (subst (λ a. same q a ≡ false) (o.equal _ _ e) s) refl
        ] refl
        | false ↦ λ e. elim (before (key x) (key y)) as (λ b. at_key q (cond b (x ∷ y ∷ ys) (y ∷ replaced key before same x ys)) ≡ cond (same q (key x)) (Some x) (cond (same q (key y)) (Some y) (at_key q ys))) [
          | true ↦ refl
          | false ↦
              elim (same q (key y)) as (λ b. same q (key y) ≡ b → cond b (Some y) (at_key q (replaced key before same x ys)) ≡ cond (same q (key x)) (Some x) (cond b (Some y) (at_key q ys))) [
                | true ↦ λ s. rw (subst (λ a. same a (key x) ≡ false) (sym (o.equal _ _ s)) (lacks_turned _ _ e)) refl
                | false ↦ λ s. rest
              ] refl
        ]
      ] refl

  pub at_key_taken_out : (q k : K) (xs : List X) → at_key q (taken_out key same k xs) ≡ cond (same q k) None (at_key q xs)
  at_key_taken_out q k [] = elim (same q k) as (λ b. ◌≡◌ {A = Option X} None (cond b None None)) [ true ↦ refl | false ↦ refl ]
  at_key_taken_out q k (y ∷ ys) =
      let rest : at_key q (taken_out key same k ys) ≡ cond (same q k) None (at_key q ys) = at_key_taken_out q k ys in
      elim (same (key y) k) as (λ b. same (key y) k ≡ b → at_key q (cond (not b) (y ∷ taken_out key same k ys) (taken_out key same k ys)) ≡ cond (same q k) None (cond (same q (key y)) (Some y) (at_key q ys))) [
        | true ↦ λ e. rw (rest, o.equal _ _ e) (elim (same q k) as (λ b. cond b None (at_key q ys) ≡ cond b None (cond b (Some y) (at_key q ys))) [ true ↦ refl | false ↦ refl ])
        | false ↦ λ e.
            elim (same q (key y)) as (λ b. same q (key y) ≡ b → cond b (Some y) (at_key q (taken_out key same k ys)) ≡ cond (same q k) None (cond b (Some y) (at_key q ys))) [
              | true ↦ λ s. rw (subst (λ a. same a k ≡ false) (sym (o.equal _ _ s)) e) refl
              | false ↦ λ s. rest
            ] refl
      ] refl

  pub at_key_found : (k : K) (xs : List X) (d : X) → Has k xs d → at_key k xs ≡ Some (get_or xs (place (below k) xs) d)
  at_key_found k [] d (l, s) = absurd (omega arith)
  at_key_found k (y ∷ ys) d (l, s) =
      let next : Has k ys d → at_key k ys ≡ Some (get_or ys (place (below k) ys) d) = at_key_found k ys d in
      elim (before (key y) k) as (λ b. before (key y) k ≡ b → cond b (suc (place (below k) ys)) 0 < suc (length ys) → same (key (get_or (y ∷ ys) (cond b (suc (place (below k) ys)) 0) d)) k ≡ true → at_key k (y ∷ ys) ≡ Some (get_or (y ∷ ys) (cond b (suc (place (below k) ys)) 0) d)) [
        | true ↦ λ e l2 s2. rw (apart_turned before same o _ _ e) (next (omega arith, s2))
        | false ↦ λ e l2 s2. rw (same_turned before same o _ _ s2) refl
      ] refl l s

  above_all : (k : K) (x : X) (ys : List X) → ((z : K) → before (key x) z ≡ true → before k z ≡ true) → ordered_from key_lt x ys ≡ true → at_key k ys ≡ None
  above_all k x [] low h = refl
  above_all k x (y ∷ ys) low h =
      let parts = and_parts (key_lt x y) (ordered_from key_lt y ys) h in
      rw (apart before same o _ _ (low (key y) parts.0)) (above_all k y ys (λ z up. o.chain _ _ _ (low (key y) parts.0) up) parts.1)

  pub at_key_lacking : (k : K) (xs : List X) (d : X) → is_ordered key_lt xs ≡ true → Lacks k xs d → at_key k xs ≡ None
  at_key_lacking k [] d h a = refl
  at_key_lacking k (y ∷ ys) d h a =
      let next : Lacks k ys d → at_key k ys ≡ None = at_key_lacking k ys d (tail_ordered y ys h) in
      elim (before (key y) k) as (λ b. before (key y) k ≡ b → (cond b (suc (place (below k) ys)) 0 < suc (length ys) → same (key (get_or (y ∷ ys) (cond b (suc (place (below k) ys)) 0) d)) k ≡ false) → at_key k (y ∷ ys) ≡ None) [
        | true ↦ λ e a2. rw (apart_turned before same o _ _ e) (next (λ l. a2 (omega arith)))
        | false ↦ λ e a2.
            let other : same (key y) k ≡ false = a2 (omega arith) in
            rw (lacks_turned _ _ other) (above_all k y ys (λ z up. o.chain _ _ _ (o.total _ _ other e) up) h)
      ] refl a

  same_key_first : (x y : X) (ys : List X) → key x ≡ key y → ordered_from key_lt y ys ≡ true → ordered_from key_lt x ys ≡ true
  same_key_first x y [] e h = refl
  same_key_first x y (z ∷ zs) e h = let parts = and_parts (key_lt y z) (ordered_from key_lt z zs) h in and_from _ _ (subst (λ a. before a (key z) ≡ true) (sym e) parts.0) parts.1

  lower_first : (x y : X) (ys : List X) → before (key x) (key y) ≡ true → ordered_from key_lt y ys ≡ true → ordered_from key_lt x ys ≡ true
  lower_first x y [] e h = refl
  lower_first x y (z ∷ zs) e h = let parts = and_parts (key_lt y z) (ordered_from key_lt z zs) h in and_from _ _ (o.chain _ _ _ e parts.0) parts.1

  replaced_from : (w x : X) (ys : List X) → before (key w) (key x) ≡ true → ordered_from key_lt w ys ≡ true → ordered_from key_lt w (replaced key before same x ys) ≡ true
  replaced_from w x [] up h = and_from _ _ up refl
  replaced_from w x (y ∷ ys) up h =
      let parts = and_parts (key_lt w y) (ordered_from key_lt y ys) h in
      let next : before (key y) (key x) ≡ true → ordered_from key_lt y (replaced key before same x ys) ≡ true = λ e. replaced_from y x ys e parts.1 in
      elim (same (key x) (key y)) as (λ b. same (key x) (key y) ≡ b → ordered_from key_lt w (cond b (x ∷ ys) (cond (before (key x) (key y)) (x ∷ y ∷ ys) (y ∷ replaced key before same x ys))) ≡ true) [
        | true ↦ λ e. and_from _ _ up (same_key_first x y ys (o.equal _ _ e) parts.1)
        | false ↦ λ e. elim (before (key x) (key y)) as (λ b. before (key x) (key y) ≡ b → ordered_from key_lt w (cond b (x ∷ y ∷ ys) (y ∷ replaced key before same x ys)) ≡ true) [
          | true ↦ λ less. and_from _ _ up (and_from _ _ less parts.1)
          | false ↦ λ more. and_from _ _ parts.0 (next (o.total _ _ e more))
        ] refl
      ] refl

  pub ordered_replaced : (x : X) (xs : List X) → is_ordered key_lt xs ≡ true → is_ordered key_lt (replaced key before same x xs) ≡ true
  ordered_replaced x [] h = refl
  ordered_replaced x (y ∷ ys) h =
      elim (same (key x) (key y)) as (λ b. same (key x) (key y) ≡ b → is_ordered key_lt (cond b (x ∷ ys) (cond (before (key x) (key y)) (x ∷ y ∷ ys) (y ∷ replaced key before same x ys))) ≡ true) [
        | true ↦ λ e. same_key_first x y ys (o.equal _ _ e) h
        | false ↦ λ e. elim (before (key x) (key y)) as (λ b. before (key x) (key y) ≡ b → is_ordered key_lt (cond b (x ∷ y ∷ ys) (y ∷ replaced key before same x ys)) ≡ true) [
          | true ↦ λ less. and_from _ _ less h
          | false ↦ λ more. replaced_from y x ys (o.total _ _ e more) h
        ] refl
      ] refl

  filtered_from : (keep : X → Bool) (w : X) (ys : List X) → ordered_from key_lt w ys ≡ true → ordered_from key_lt w (filter keep ys) ≡ true
  filtered_from keep w [] h = refl
  filtered_from keep w (y ∷ ys) h =
      let parts = and_parts (key_lt w y) (ordered_from key_lt y ys) h in
      let next : (v : X) → ordered_from key_lt v ys ≡ true → ordered_from key_lt v (filter keep ys) ≡ true = λ v k. filtered_from keep v ys k in
      elim (keep y) as (λ b. ordered_from key_lt w (cond b (y ∷ filter keep ys) (filter keep ys)) ≡ true) [
        | true ↦ and_from _ _ parts.0 (next y parts.1)
        | false ↦ next w (lower_first w y ys parts.0 parts.1)
      ]

  pub ordered_filter : (keep : X → Bool) (xs : List X) → is_ordered key_lt xs ≡ true → is_ordered key_lt (filter keep xs) ≡ true
  ordered_filter keep [] h = refl
  ordered_filter keep (y ∷ ys) h =
      elim (keep y) as (λ b. is_ordered key_lt (cond b (y ∷ filter keep ys) (filter keep ys)) ≡ true) [
        | true ↦ filtered_from keep y ys h
        | false ↦ ordered_filter keep ys (tail_ordered y ys h)
      ]

  pub every_replaced : (test : X → Bool) (x : X) (xs : List X) → test x ≡ true → every test xs ≡ true → every test (replaced key before same x xs) ≡ true
  every_replaced test x [] t h = and_from _ _ t refl
  every_replaced test x (y ∷ ys) t h =
      let parts = and_parts (test y) (every test ys) h in
      let rest : every test (replaced key before same x ys) ≡ true = every_replaced test x ys t parts.1 in
      elim (same (key x) (key y)) as (λ b. every test (cond b (x ∷ ys) (cond (before (key x) (key y)) (x ∷ y ∷ ys) (y ∷ replaced key before same x ys))) ≡ true) [
        | true ↦ and_from _ _ t parts.1
        | false ↦ elim (before (key x) (key y)) as (λ b. every test (cond b (x ∷ y ∷ ys) (y ∷ replaced key before same x ys)) ≡ true) [
          | true ↦ and_from _ _ t h
          | false ↦ and_from _ _ parts.0 rest
        ]
      ]

  has_at : (k : K) (xs : List X) (i : ℕ) (d : X) → IsAt key before same k xs i → Has k xs d
  has_at k xs i d a = subst (λ j. (j < length xs) × (same (key (get_or xs j d)) k ≡ true)) a.here (a.within, a.has d)

  lacks_at : (k : K) (xs : List X) (i : ℕ) (d : X) → GoesAt key before same k xs i → Lacks k xs d
  lacks_at k xs i d a = subst (λ j. j < length xs → same (key (get_or xs j d)) k ≡ false) a.here (a.lacks d)

  pub set_at : (x : X) (xs : List X) (i : ℕ) → IsAt key before same (key x) xs i → set xs i x ≡ replaced key before same x xs
  set_at x xs i a = rw a.here (set_is_replaced x xs x (has_at _ xs i x a))

  pub insert_at : (x : X) (xs : List X) (i : ℕ) → GoesAt key before same (key x) xs i → insert xs i x ≡ replaced key before same x xs
  insert_at x xs i a = rw a.here (insert_is_replaced x xs x (lacks_at _ xs i x a))

  pub remove_at : (k : K) (xs : List X) (i : ℕ) → is_ordered key_lt xs ≡ true → IsAt key before same k xs i → remove xs i ≡ taken_out key same k xs
  remove_at k [] i h a = absurd (let w : i < 0 = a.within in omega arith)
  remove_at k (y ∷ ys) i h a = rw a.here (remove_is_taken_out k (y ∷ ys) y h (has_at k (y ∷ ys) i y a))

  pub absent_out : (k : K) (xs : List X) (i : ℕ) → is_ordered key_lt xs ≡ true → GoesAt key before same k xs i → taken_out key same k xs ≡ xs
  absent_out k [] i h a = refl
  absent_out k (y ∷ ys) i h a = lacking_taken_out k (y ∷ ys) y h (lacks_at k (y ∷ ys) i y a)

  pub found_at : (k : K) (xs : List X) (i : ℕ) (d : X) → IsAt key before same k xs i → at_key k xs ≡ Some (get_or xs i d)
  found_at k xs i d a = at_key_found k xs d (has_at k xs i d a) ∙ ap (λ j. Some (get_or xs j d)) (sym a.here)

  pub absent_at : (k : K) (xs : List X) (i : ℕ) → is_ordered key_lt xs ≡ true → GoesAt key before same k xs i → at_key k xs ≡ None
  absent_at k [] i h a = refl
  absent_at k (y ∷ ys) i h a = at_key_lacking k (y ∷ ys) y h (lacks_at k (y ∷ ys) i y a)

  pub none_before_first : (k : K) (x : X) (xs : List X) → is_ordered key_lt (x ∷ xs) ≡ true → before k (key x) ≡ true → at_key k (x ∷ xs) ≡ None
  none_before_first k x xs h l = rw (apart before same o _ _ l) (above_all k x xs (λ z up. o.chain _ _ _ l up) h)

  pub none_behind_first : (x : X) (xs : List X) → is_ordered key_lt (x ∷ xs) ≡ true → at_key (key x) xs ≡ None
  none_behind_first x xs h = above_all (key x) x xs (λ z up. up) h

module _ {X : Type 0} (before same : X → X → Bool) (o : IsOrder before same) where
  pub placed_is_replaced : (x : X) (xs : List X) → placed before same x xs ≡ replaced (λ y. y) before same x xs
  placed_is_replaced x [] = refl
  placed_is_replaced x (y ∷ ys) =
      let rest : placed before same x ys ≡ replaced (λ y. y) before same x ys = placed_is_replaced x ys in
      elim (same x y) as (λ b. same x y ≡ b → cond b (y ∷ ys) (cond (before x y) (x ∷ y ∷ ys) (y ∷ placed before same x ys)) ≡ cond b (x ∷ ys) (cond (before x y) (x ∷ y ∷ ys) (y ∷ replaced (λ y. y) before same x ys))) [
        | true ↦ λ e. ap (λ z. z ∷ ys) (sym (o.equal x y e))
        | false ↦ λ e. ap (λ zs. cond (before x y) (x ∷ y ∷ ys) (y ∷ zs)) rest
      ] refl

  -- a set that has the element keeps it
  pub placed_has : (x : X) (xs : List X) (d : X) → Has (λ y. y) before same o x xs d → placed before same x xs ≡ xs
  placed_has x [] d (l, s) = absurd (omega arith)
  placed_has x (y ∷ ys) d (l, s) =
      let next : Has (λ y. y) before same o x ys d → placed before same x ys ≡ ys = placed_has x ys d in
      elim (before y x) as (λ b. before y x ≡ b → cond b (suc (place (λ z. before z x) ys)) 0 < suc (length ys) → same (get_or (y ∷ ys) (cond b (suc (place (λ z. before z x) ys)) 0) d) x ≡ true → placed before same x (y ∷ ys) ≡ y ∷ ys) [
        | true ↦ λ e l2 s2. rw (apart_turned before same o _ _ e, o.one_way _ _ e) (ap (λ zs. y ∷ zs) (next (omega arith, s2)))
        | false ↦ λ e l2 s2. rw (same_turned before same o _ _ s2) refl
      ] refl l s

  pub placed_at : (x : X) (xs : List X) (i : ℕ) → IsAt (λ y. y) before same x xs i → placed before same x xs ≡ xs
  placed_at x xs i a = placed_has x xs x (subst (λ j. (j < length xs) × (same (get_or xs j x) x ≡ true)) a.here (a.within, a.has x))

  pub inserted_at : (x : X) (xs : List X) (i : ℕ) → GoesAt (λ y. y) before same x xs i → insert xs i x ≡ placed before same x xs
  inserted_at x xs i a = insert_at (λ y. y) before same o x xs i a ∙ sym (placed_is_replaced x xs)

  pub ordered_placed : (x : X) (xs : List X) → is_ordered before xs ≡ true → is_ordered before (placed before same x xs) ≡ true
  ordered_placed x xs h = rw (placed_is_replaced x xs) (ordered_replaced (λ y. y) before same o x xs h)
