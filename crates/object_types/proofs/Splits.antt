-- A list that stands in the order of its keys, taken apart at one of its elements.
use Rattle.std.proofs.Common.{◌≡◌, Bool, true, false, cond, List, [], ◌∷◌, ◌++◌, Option, Some, None, refl, sym, ap, subst, ◌∙◌}
use Rattle.std.specs.List.{find}
use Rattle.std.specs.Option.{option_or}
use Rattle.std.proofs.lemmas.Bool.{and_parts, and_from}
use Rattle.object_types.specs.Places.{ordered_from, is_ordered, replaced}
use Rattle.object_types.specs.Sets.{every}
use Rattle.object_types.specs.Trees.{find_last}
use Rattle.object_types.proofs.Orders.{IsOrder, apart, apart_turned, same_turned}
use Rattle.object_types.proofs.Placed.{tail_ordered, none_before_first}

pub appended : {X : Type 0} (xs ys zs : List X) → (xs ++ ys) ++ zs ≡ xs ++ (ys ++ zs)
appended [] ys zs = refl
appended (x ∷ xs) ys zs = ap (λ ws. x ∷ ws) (appended xs ys zs)

-- a tree turned: the first one's top stands above the second one, or the second one's above the first
pub turned_right : {X : Type 0} (all outer between after low whole : List X) (above own : X) → all ≡ outer ++ above ∷ between → low ≡ between ++ own ∷ after → whole ≡ outer ++ above ∷ low → whole ≡ all ++ own ∷ after
turned_right all outer between after low whole above own a l w =
    w ∙ ap (λ ws. outer ++ above ∷ ws) l ∙ sym (appended outer (above ∷ between) (own ∷ after)) ∙ ap (λ ws. ws ++ own ∷ after) (sym a)

pub turned_left : {X : Type 0} (all outer between before low whole : List X) (above own : X) → all ≡ between ++ above ∷ outer → low ≡ before ++ own ∷ between → whole ≡ low ++ above ∷ outer → whole ≡ before ++ own ∷ all
turned_left all outer between before low whole above own a l w =
    w ∙ ap (λ ws. ws ++ above ∷ outer) l ∙ appended before (own ∷ between) (above ∷ outer) ∙ ap (λ ws. before ++ own ∷ ws) (sym a)

-- the first that passes of two lists, and the last
pub find_both : {X : Type 0} (passes : X → Bool) (xs ys : List X) → find passes (xs ++ ys) ≡ option_or (find passes xs) (find passes ys)
find_both passes [] ys = refl
find_both passes (x ∷ xs) ys =
    let rest : find passes (xs ++ ys) ≡ option_or (find passes xs) (find passes ys) = find_both passes xs ys in
    elim (passes x) as (λ b. cond b (Some x) (find passes (xs ++ ys)) ≡ option_or (cond b (Some x) (find passes xs)) (find passes ys)) [ true ↦ refl | false ↦ rest ]

pub or_none : {X : Type 0} (o : Option X) → option_or o None ≡ o
or_none None = refl
or_none (Some x) = refl

or_appended : {X : Type 0} (o p q : Option X) → option_or (option_or o p) q ≡ option_or o (option_or p q)
or_appended None p q = refl
or_appended (Some x) p q = refl

pub find_last_both : {X : Type 0} (passes : X → Bool) (xs ys : List X) → find_last passes (xs ++ ys) ≡ option_or (find_last passes ys) (find_last passes xs)
find_last_both passes [] ys = sym (or_none (find_last passes ys))
find_last_both passes (x ∷ xs) ys =
    ap (λ o. option_or o (cond (passes x) (Some x) None)) (find_last_both passes xs ys) ∙ or_appended (find_last passes ys) (find_last passes xs) (cond (passes x) (Some x) None)

module _ {X K : Type 0} (key : X → K) (before same : K → K → Bool) (o : IsOrder before same) where
  abbrev lt : X → X → Bool
  lt a b = before (key a) (key b)

  -- each key is before k
  abbrev pub all_before : K → List X → Bool
  all_before k xs = every (λ x. before (key x) k) xs

  front_from : (x : X) (xs ys : List X) → ordered_from lt x (xs ++ ys) ≡ true → ordered_from lt x xs ≡ true
  front_from x [] ys h = refl
  front_from x (z ∷ zs) ys h =
      let parts = and_parts (lt x z) (ordered_from lt z (zs ++ ys)) h in
      and_from _ _ parts.0 (front_from z zs ys parts.1)

  pub front_ordered : (xs ys : List X) → is_ordered lt (xs ++ ys) ≡ true → is_ordered lt xs ≡ true
  front_ordered [] ys h = refl
  front_ordered (x ∷ xs) ys h = front_from x xs ys h

  pub rest_ordered : (xs : List X) (y : X) (ys : List X) → is_ordered lt (xs ++ y ∷ ys) ≡ true → ordered_from lt y ys ≡ true
  rest_ordered [] y ys h = h
  rest_ordered (x ∷ xs) y ys h = rest_ordered xs y ys (tail_ordered key before same o x (xs ++ y ∷ ys) h)

  pub back_ordered : (xs : List X) (y : X) (ys : List X) → is_ordered lt (xs ++ y ∷ ys) ≡ true → is_ordered lt ys ≡ true
  back_ordered xs y ys h = tail_ordered key before same o y ys (rest_ordered xs y ys h)

  before_later : (x : X) (xs : List X) (y : X) (ys : List X) → ordered_from lt x (xs ++ y ∷ ys) ≡ true → before (key x) (key y) ≡ true
  before_later x [] y ys h = (and_parts (lt x y) (ordered_from lt y ys) h).0
  before_later x (z ∷ zs) y ys h =
      let parts = and_parts (lt x z) (ordered_from lt z (zs ++ y ∷ ys)) h in
      o.chain _ _ _ parts.0 (before_later z zs y ys parts.1)

  pub front_before : (xs : List X) (y : X) (ys : List X) → is_ordered lt (xs ++ y ∷ ys) ≡ true → all_before (key y) xs ≡ true
  front_before [] y ys h = refl
  front_before (x ∷ xs) y ys h = and_from _ _ (before_later x xs y ys h) (front_before xs y ys (tail_ordered key before same o x (xs ++ y ∷ ys) h))

  pub before_higher : (a b : K) (xs : List X) → before a b ≡ true → all_before a xs ≡ true → all_before b xs ≡ true
  before_higher a b [] l h = refl
  before_higher a b (x ∷ xs) l h =
      let parts = and_parts (before (key x) a) (all_before a xs) h in
      and_from _ _ (o.chain _ _ _ parts.0 l) (before_higher a b xs l parts.1)

  -- the look-up of a key goes to one side, or ends at the element
  abbrev pub at : K → List X → Option X
  at k xs = find (λ e. same k (key e)) xs

  at_past : (k : K) (xs ys : List X) → all_before k xs ≡ true → at k (xs ++ ys) ≡ at k ys
  at_past k [] ys h = refl
  at_past k (x ∷ xs) ys h =
      let parts = and_parts (before (key x) k) (all_before k xs) h in
      rw (apart_turned before same o _ _ parts.0) (at_past k xs ys parts.1)

  pub at_before : (k : K) (xs : List X) (y : X) (ys : List X) → is_ordered lt (xs ++ y ∷ ys) ≡ true → before k (key y) ≡ true → at k (xs ++ y ∷ ys) ≡ at k xs
  at_before k [] y ys h l = none_before_first key before same o k y ys h l
  at_before k (x ∷ xs) y ys h l =
      ap (λ p. cond (same k (key x)) (Some x) p) (at_before k xs y ys (tail_ordered key before same o x (xs ++ y ∷ ys) h) l)

  pub at_own : (k : K) (xs : List X) (y : X) (ys : List X) → is_ordered lt (xs ++ y ∷ ys) ≡ true → same (key y) k ≡ true → at k (xs ++ y ∷ ys) ≡ Some y
  at_own k xs y ys h s =
      let below : all_before k xs ≡ true = subst (λ a. all_before a xs ≡ true) (o.equal _ _ s) (front_before xs y ys h) in
      let here : at k (y ∷ ys) ≡ Some y = rw (same_turned before same o _ _ s) refl in
      at_past k xs (y ∷ ys) below ∙ here

  pub at_after : (k : K) (xs : List X) (y : X) (ys : List X) → is_ordered lt (xs ++ y ∷ ys) ≡ true → before (key y) k ≡ true → at k (xs ++ y ∷ ys) ≡ at k ys
  at_after k xs y ys h l =
      let below : all_before k xs ≡ true = before_higher (key y) k xs l (front_before xs y ys h) in
      let here : at k (y ∷ ys) ≡ at k ys = rw (apart_turned before same o _ _ l) refl in
      at_past k xs (y ∷ ys) below ∙ here

  -- an element with a key goes to one side, or in place of the element
  abbrev with : X → List X → List X
  with x xs = replaced key before same x xs

  with_past : (x : X) (xs ys : List X) → all_before (key x) xs ≡ true → with x (xs ++ ys) ≡ xs ++ with x ys
  with_past x [] ys h = refl
  with_past x (z ∷ zs) ys h =
      let parts = and_parts (before (key z) (key x)) (all_before (key x) zs) h in
      rw (apart_turned before same o _ _ parts.0, o.one_way _ _ parts.0) (ap (λ ws. z ∷ ws) (with_past x zs ys parts.1))

  pub with_before : (x : X) (xs : List X) (y : X) (ys : List X) → before (key x) (key y) ≡ true → with x (xs ++ y ∷ ys) ≡ with x xs ++ y ∷ ys
  with_before x [] y ys l = rw (apart before same o _ _ l, l) refl
  with_before x (z ∷ zs) y ys l =
      let rest : with x (zs ++ y ∷ ys) ≡ with x zs ++ y ∷ ys = with_before x zs y ys l in
      elim (same (key x) (key z)) as (λ b. cond b (x ∷ (zs ++ y ∷ ys)) (cond (before (key x) (key z)) (x ∷ z ∷ (zs ++ y ∷ ys)) (z ∷ with x (zs ++ y ∷ ys))) ≡ cond b (x ∷ zs) (cond (before (key x) (key z)) (x ∷ z ∷ zs) (z ∷ with x zs)) ++ y ∷ ys) [
        | true ↦ refl
        | false ↦ elim (before (key x) (key z)) as (λ b. cond b (x ∷ z ∷ (zs ++ y ∷ ys)) (z ∷ with x (zs ++ y ∷ ys)) ≡ cond b (x ∷ z ∷ zs) (z ∷ with x zs) ++ y ∷ ys) [
          | true ↦ refl
          | false ↦ ap (λ ws. z ∷ ws) rest
        ]
      ]

  pub with_own : (x : X) (xs : List X) (y : X) (ys : List X) → is_ordered lt (xs ++ y ∷ ys) ≡ true → same (key x) (key y) ≡ true → with x (xs ++ y ∷ ys) ≡ xs ++ x ∷ ys
  with_own x xs y ys h s =
      let below : all_before (key x) xs ≡ true = subst (λ a. all_before a xs ≡ true) (sym (o.equal _ _ s)) (front_before xs y ys h) in
      let here : with x (y ∷ ys) ≡ x ∷ ys = rw s refl in
      with_past x xs (y ∷ ys) below ∙ ap (λ ws. xs ++ ws) here

  pub with_after : (x : X) (xs : List X) (y : X) (ys : List X) → is_ordered lt (xs ++ y ∷ ys) ≡ true → before (key y) (key x) ≡ true → with x (xs ++ y ∷ ys) ≡ xs ++ y ∷ with x ys
  with_after x xs y ys h l =
      let below : all_before (key x) xs ≡ true = before_higher (key y) (key x) xs l (front_before xs y ys h) in
      let here : with x (y ∷ ys) ≡ y ∷ with x ys = rw (apart_turned before same o _ _ l, o.one_way _ _ l) refl in
      with_past x xs (y ∷ ys) below ∙ ap (λ ws. xs ++ ws) here
