-- A quantified formula over what stands free in its body.
use Rattle.std.proofs.Common.{◌≡◌, ℕ, zero, suc, ◌+◌, ◌≤◌, ◌==◌, Bool, true, false, not, ◌&&◌, ◌||◌, if◌then◌else◌, List, [], ◌∷◌, ◌++◌, map, drop, length, refl, sym, ap, ◌∙◌, subst, arith}
use Rattle.std.proofs.lemmas.Bool.{eqb-true, eq-eqb, and_parts, and_from, or_cases, or_left, or_right}
use Rattle.std.proofs.Common.{inl, inr, get_or}
use Rattle.object_types.specs.declared.references.Ref.{Ref}
use Rattle.object_types.specs.References.{is_reference, same_ref, null as null_ref}
use Rattle.object_types.specs.Sets.{is_in, every, some}
use Rattle.method.proofs.Global.{same_ref_is, same_ref_self}
use Rattle.method.specs.SpecValue as v
use Rattle.terms.specs.Formula.{Formula}
use Rattle.term_meaning.specs.Meaning.{Value, BoolValue, Env, Language, ref_value, truth, argument as at_value, AllHolds, InvHolds, BodyHolds, SaysBy, GivesBy, env_of}
use Rattle.term_meaning.proofs.Filled.{this_one, later_same}
use Rattle.term_meaning.proofs.Values.{gives_one}
use Rattle.axiom_instances.proofs.Kit as kit
use Rattle.axiom_instances.proofs.Kit.{HaveAll, node_has}
use Rattle.conditions.specs.Formulas.{row, constants, is_number}
use Rattle.conditions.specs.Annotations.{Scene, parts, quantifier, free_parts}
use Rattle.conditions.specs.Quantified.{place_from, places, renumber}
use Rattle.condition_meaning.specs.Fits as fits
use Rattle.condition_meaning.proofs.Truths as truths
use Rattle.condition_meaning.proofs.Constants.{Speaks, EachNumber, each_constant, each_but, is_in_but, but, are_listed, speaks_more, moved}
use Rattle.condition_meaning.proofs.Places.{part}
use Rattle.condition_meaning.proofs.Scenes.{Match, part_values, one_behind, at_behind, all_have, inner}

abbrev Both : Type 0 → Type 0 → Type 0
Both A B = (A → B) × (B → A)

-- Numbers and their places.

equal_turned : (a b : ℕ) → a == b ≡ false → b == a ≡ false
equal_turned a b h = by_test (b == a) refl
  where
    by_test : (t : Bool) → b == a ≡ t → t ≡ false
    by_test true e = absurd (let z : a == b ≡ true = eq-eqb a b (sym (eqb-true b a e)) in cc)
    by_test false e = refl

placed_at : (g : ℕ → Value) (ms : List ℕ) (k i : ℕ) (more : List Value) (d : Value) → is_number k ms ≡ true → (j : ℕ) → place_from i k ms ≡ i + j → get_or (map g ms ++ more) j d ≡ g k
placed_at g [] k i more d h j e = absurd (cc)
placed_at g (m ∷ ms) k i more d h j e = by_test (k == m) refl h e (λ n l same. placed_at g ms k (suc i) more d n l same)
  where
    beyond : (ms : List ℕ) (i : ℕ) → i ≤ place_from i k ms
    beyond [] i = omega arith
    beyond (m ∷ ms) i = by_bool (k == m) (beyond ms (suc i))
      where
        by_bool : (t : Bool) → suc i ≤ place_from (suc i) k ms → i ≤ (if t then i else place_from (suc i) k ms)
        by_bool true h = omega arith
        by_bool false h = omega (arith, h)

    at_zero : (j : ℕ) → j ≡ 0 → get_or (g m ∷ map g ms ++ more) j d ≡ g m
    at_zero j z = ap (λ n. get_or (g m ∷ map g ms ++ more) n d) z

    by_test : (t : Bool) → k == m ≡ t → (t || is_number k ms) ≡ true → (if t then i else place_from (suc i) k ms) ≡ i + j → (is_number k ms ≡ true → (l : ℕ) → place_from (suc i) k ms ≡ suc i + l → get_or (map g ms ++ more) l d ≡ g k) → get_or (g m ∷ map g ms ++ more) j d ≡ g k
    by_test true same h e rest = at_zero j (omega (arith, e)) ∙ ap g (sym (eqb-true k m same))
    by_test false other h e rest = by_size j (beyond ms (suc i)) e
      where
        by_size : (j : ℕ) → suc i ≤ place_from (suc i) k ms → place_from (suc i) k ms ≡ i + j → get_or (g m ∷ map g ms ++ more) j d ≡ g k
        by_size zero l e = absurd (omega (arith, l, e))
        by_size (suc j) l e = rest h j (omega (arith, e))

not_placed : (b : ℕ) (ms : List ℕ) (i : ℕ) → EachNumber (λ n. n == b ≡ false) ms → place_from i b ms ≡ i + length ms
not_placed b [] i a = omega arith
not_placed b (m ∷ ms) i a = by_test (b == m) (equal_turned m b a.0) (not_placed b ms (suc i) a.1)
  where
    by_test : (t : Bool) → t ≡ false → place_from (suc i) b ms ≡ suc i + length ms → (if t then i else place_from (suc i) b ms) ≡ i + suc (length ms)
    by_test true h e = absurd (cc)
    by_test false h e = omega (arith, e)

last_at : (g : ℕ → Value) (ms : List ℕ) (y d : Value) (j : ℕ) → j ≡ length ms → get_or (map g ms ++ y ∷ []) j d ≡ y
last_at g [] y d j e = ap (λ n. get_or (y ∷ []) n d) e
last_at g (m ∷ ms) y d j e = ap (λ n. get_or (g m ∷ map g ms ++ y ∷ []) n d) e ∙ last_at g ms y d (length ms) refl

each_map : (P Q : ℕ → Type 0) (ms : List ℕ) → ((n : ℕ) → P n → Q n) → EachNumber P ms → EachNumber Q ms
each_map P Q [] f a = tt
each_map P Q (m ∷ ms) f a = (f m a.0, each_map P Q ms f a.1)

-- Quantified formulas.

module _ (l : Language) (hidden : ℕ → Bool) (inside : Bool) (e : Env) (x : Scene) (s : v.Scene) (m : Match l hidden inside e x s) (n : ℕ) (body : Formula)
    (speaks : Speaks (λ k. kit.Has l e (part x k) (at_value (part_values l x s) k)) (suc n) body)
  where
    abbrev P : ℕ → Type 0
    P k = kit.Has l e (part x k) (at_value (part_values l x s) k)

    abbrev size : ℕ
    size = length (parts x)

    abbrev ms : List ℕ
    ms = but size (constants body [])

    each_place : EachNumber (λ k. P k × (k == size ≡ false)) ms
    each_place = each_but P size (constants body []) (each_constant P (suc n) body [] speaks tt)

    abbrev args : List Value
    args = map (λ k. at_value (part_values l x s) k) ms

    args_have : HaveAll l e (row (free_parts x body)) args
    args_have = all_have l e x (part_values l x s) ms (each_map (λ k. P k × (k == size ≡ false)) P ms (λ k h. h.0) each_place)

    module _ (q : Ref) where
      abbrev values : List Value
      values = part_values l x s ++ ref_value q ∷ []

      abbrev Same : ℕ → Type 0
      Same k = at_value (args ++ ref_value q ∷ []) (place_from 0 k ms) ≡ at_value values k

      same_place : (k : ℕ) → P k × (is_number k (constants body []) ≡ true) → Same k
      same_place k h = by_test (k == size) refl
        where
          by_test : (t : Bool) → k == size ≡ t → Same k
          by_test true same =
              let k_is : k ≡ size = eqb-true k size same in
              subst (λ i. Same i) (sym k_is) (last_at (λ k. at_value (part_values l x s) k) ms (ref_value q) (ref_value null_ref) (place_from 0 size ms) (let z = not_placed size ms 0 (each_map (λ k. P k × (k == size ≡ false)) (λ k. k == size ≡ false) ms (λ k h. h.1) each_place) in omega (arith, z)) ∙ sym (at_behind l x s q))
          by_test false other =
              placed_at (λ k. at_value (part_values l x s) k) ms k 0 (ref_value q ∷ []) (ref_value null_ref) (is_in_but size k (constants body []) other h.1) (place_from 0 k ms) (omega arith) ∙ sym (one_behind l x s q k other)

      same_speaks : Speaks Same (suc n) body
      same_speaks = speaks_more (λ k. P k × (is_number k (constants body []) ≡ true)) Same (suc n) same_place body (are_listed P (suc n) body [] speaks)

      -- the body as it stands in the table
      abbrev later : ℕ → List Value → Type 0
      later = BodyHolds l.program e.me (suc n) (drop (suc n) l.quantified)

      moved_body : (y : Value) → kit.Has l (inner l hidden inside e x s m e.me q) body y → GivesBy l.program later (λ o h k. Unit {0}) (env_of e.me (args ++ ref_value q ∷ [])) (renumber ms body) y
      moved_body y h =
          moved l.program (AllHolds l e.me) later (InvHolds l e.me) (λ o h k. Unit {0}) e.me values (args ++ ref_value q ∷ []) ms (suc n) (λ i xs below. later_same l.program e.me l.quantified n 0 n (omega arith) i xs (omega (arith, below))) body y same_speaks h.value

      body_says : (b : Bool) → truths.Is l (inner l hidden inside e x s m e.me q) body b → Both (SaysBy l.program later e.me (renumber ms body) (args ++ ref_value q ∷ [])) (b ≡ true)
      body_says b h = (
        λ says. says (BoolValue b) (moved_body (BoolValue b) h),
        λ is y g. ap truth (gives_one l.program later (λ o h k. Unit {0}) (env_of e.me (args ++ ref_value q ∷ [])) (renumber ms body) y (BoolValue b) g (moved_body (BoolValue b) h)) ∙ is,
      )

      holds_where : (stands : fits.HasBody l n (renumber (places x body) body)) (b : Bool) → truths.Is l (inner l hidden inside e x s m e.me q) body b → Both (AllHolds l e.me n (args ++ ref_value q ∷ [])) (b ≡ true)
      holds_where stands b h =
          let one = this_one l.program e.me l.quantified n 0 n stands.0 (omega arith) stands.1 (args ++ ref_value q ∷ []) in
          let says : Both (SaysBy l.program later e.me stands.0.body (args ++ ref_value q ∷ [])) (b ≡ true) = subst (λ f. Both (SaysBy l.program later e.me f (args ++ ref_value q ∷ [])) (b ≡ true)) (sym stands.2) (body_says b h) in
          ((λ a. says.0 (one.0 a)), λ a. one.1 (says.1 a))

    -- `all` is true exactly where its body is for each reference
    pub all_stands : fits.HasBody l n (renumber (places x body) body) → (test : Ref → Bool) → ((q : Ref) → is_reference q ≡ true → truths.Is l (inner l hidden inside e x s m e.me q) body (test q))
        → (b : Bool) → (b ≡ true → (q : Ref) → is_reference q ≡ true → test q ≡ true) → (((q : Ref) → is_reference q ≡ true → test q ≡ true) → b ≡ true) → truths.Is l e (quantifier x n body) b
    all_stands stands test each b forth back =
        node_has args_have (record {
          is_bool = refl;
          yes = λ h q i. (holds_where q stands (test q) (each q i)).1 (forth h q i);
          holds = λ all. back (λ q i. (holds_where q stands (test q) (each q i)).0 (all q i));
        })

-- Members of a set.

pub every_in : (test : Ref → Bool) (q : Ref) (xs : List Ref) → every test xs ≡ true → is_in q xs ≡ true → test q ≡ true
unfolding is_in
every_in test q [] h m = absurd (cc)
every_in test q (x ∷ xs) h m =
    let p = and_parts (test x) (every test xs) h in
    elim (or_cases (same_ref q x) (is_in q xs) m) [
      | inl s ↦ ap test (same_ref_is q x s) ∙ p.0
      | inr n ↦ every_in test q xs p.1 n
    ]

pub every_from : (test : Ref → Bool) (xs : List Ref) → ((q : Ref) → is_in q xs ≡ true → test q ≡ true) → every test xs ≡ true
unfolding is_in
every_from test [] h = refl
every_from test (x ∷ xs) h = and_from _ _ (h x (or_left _ _ (same_ref_self x))) (every_from test xs (λ q m. h q (or_right _ _ m)))

some_not : (test : Ref → Bool) (xs : List Ref) → some test xs ≡ not (every (λ q. not (test q)) xs)
some_not test [] = refl
some_not test (x ∷ xs) = by_test (test x) (some_not test xs)
  where
    by_test : (t : Bool) → some test xs ≡ not (every (λ q. not (test q)) xs) → (t || some test xs) ≡ not (not t && every (λ q. not (test q)) xs)
    by_test true h = refl
    by_test false h = h

every_same : (f g : Ref → Bool) (xs : List Ref) → ((q : Ref) → f q ≡ g q) → every f xs ≡ every g xs
every_same f g [] h = refl
every_same f g (x ∷ xs) h = λ i. h x i && every_same f g xs h i

pub some_is : (test deny : Ref → Bool) (xs : List Ref) → ((q : Ref) → deny q ≡ not (test q)) → some test xs ≡ not (every deny xs)
some_is test deny xs h = some_not test xs ∙ ap not (sym (every_same deny (λ q. not (test q)) xs h))
