-- Small lemmas that all parts use: of truth values, whole numbers, names, what lists contain, and what is found in them.
use Rattle.std.specs.Prelude.{Bool, true, false, not, ◌||◌, ◌&&◌, ◌==◌, ℕ, zero, suc, ◌+◌, nat_lt, cond, List, [], ◌∷◌, ◌++◌, length, map, flat_map, find, position, slice_get, Option, Some, None, is_some, option_map, Contains, IsTrue}
use Rattle.std.specs.List.{position_from}
use Rattle.std.proofs.Common.{◌≡◌, ◌⊎◌, refl, sym, ap, subst, inl, inr, arith, ◌∙◌}
use Rattle.std.proofs.lemmas.Bool.{true≢false, eq-eqb}
use Rattle.std.proofs.lemmas.Option.{slice_get_within, get_or_from_slice_get, same_Some}
use Rattle.std.proofs.lemmas.List.Elements.{Contains-append_left, Contains-append_right, Contains-append_cases}
use Rattle.std.proofs.lemmas.Iterator.Adapters.{position_from-zero}
use Rattle.std.proofs.lemmas.Slice.Eq.{bytes_eq-Decides}
use Rattle.c_syntax.specs.Expressions.{Id}
use Rattle.object_types.specs.Sets.{every}
use Rattle.typing_spec.specs.Declarations.{same_name}

-- ---- truth values

pub and_both : (a b : Bool) → IsTrue a → IsTrue b → IsTrue (a && b)
and_both true b h j = j
and_both false b h j = absurd (true≢false (sym h))

pub and_left : (a b : Bool) → IsTrue (a && b) → IsTrue a
and_left true b h = refl
and_left false b h = absurd (true≢false (sym h))

pub and_right : (a b : Bool) → IsTrue (a && b) → IsTrue b
and_right true b h = h
and_right false b h = absurd (true≢false (sym h))

pub or_first : (a b : Bool) → IsTrue a → IsTrue (a || b)
or_first true b h = refl
or_first false b h = absurd (true≢false (sym h))

pub or_second : (a b : Bool) → IsTrue b → IsTrue (a || b)
or_second true b h = refl
or_second false b h = h

-- where `||` of two is false, both are
pub neither : (a b : Bool) → (a || b) ≡ false → (a ≡ false) × (b ≡ false)
neither true b h = absurd (true≢false h)
neither false b h = (refl, h)

pub neither_left : (a b : Bool) → (a || b) ≡ false → a ≡ false
neither_left a b h = (neither a b h).0

pub neither_right : (a b : Bool) → (a || b) ≡ false → b ≡ false
neither_right a b h = (neither a b h).1

pub from_not : (b : Bool) → not b ≡ false → IsTrue b
from_not true h = refl
from_not false h = absurd (true≢false h)

pub if_not_false : (b : Bool) → (b ≡ false → ⊥) → IsTrue b
if_not_false true h = refl
if_not_false false h = absurd (h refl)

pub never : {A : Type 0} → IsTrue false → A
never h = absurd (true≢false (sym h))

-- ---- whole numbers, options and names

pub nat_itself : (n : ℕ) → IsTrue (n == n)
nat_itself n = eq-eqb n n refl

pub none_below : (n : ℕ) → nat_lt n 0 ≡ false
none_below n = grind arith

pub not_none : {A : Type 0} {P : Type 0} (x : A) → None ≡ Some x → P
not_none x h = absurd (true≢false (sym (ap is_some h)))

pub same_bytes : (x y : Id) → IsTrue (same_name x y) → x.name ≡ y.name
same_bytes x y h = (bytes_eq-Decides x.name y.name).0 h

pub own_name : (x : Id) → IsTrue (same_name x x)
own_name x = (bytes_eq-Decides x.name x.name).1 refl

pub other_way : (x y : Id) → IsTrue (same_name x y) → IsTrue (same_name y x)
other_way x y h = (bytes_eq-Decides y.name x.name).1 (sym (same_bytes x y h))

-- so where the first isn't named like the second, nor is the second like the first
pub differ : (x y : Id) → same_name x y ≡ false → same_name y x ≡ false
differ x y h = by (same_name y x) refl
  where
    by : (b : Bool) → same_name y x ≡ b → b ≡ false
    by true g = absurd (true≢false (sym (other_way y x g) ∙ h))
    by false g = refl

-- ---- what lists contain

pub contains_head : {A : Type 0} (x : A) (xs : List A) → Contains (x ∷ xs) x
contains_head x xs = (0, omega arith, refl)

pub contains_tail : {A : Type 0} (x y : A) (xs : List A) → Contains xs y → Contains (x ∷ xs) y
contains_tail x y xs c = Contains-append_right (x ∷ []) xs y c

pub contains_cases : {A : Type 0} (x y : A) (xs : List A) → Contains (x ∷ xs) y → (x ≡ y) ⊎ Contains xs y
contains_cases x y xs (zero, l, e) = inl e
contains_cases x y xs (suc k, l, e) = inr (k, omega arith, e)

pub contains_none : {A : Type 0} (y : A) → Contains [] y → ⊥
contains_none y c = absurd (omega (arith, c.1))

-- a list contains what stands at a place in it
pub contained : {A : Type 0} (xs : List A) (k : ℕ) (x : A) → slice_get xs k ≡ Some x → Contains xs x
contained xs k x e = (k, slice_get_within xs k x e, get_or_from_slice_get xs k x x e)

pub contains_map : {A B : Type 0} (f : A → B) (xs : List A) (x : A) → Contains xs x → Contains (map f xs) (f x)
contains_map f [] x c = absurd (contains_none x c)
contains_map f (y ∷ ys) x c =
    elim (contains_cases y x ys c) [
      | inl h ↦ subst (λ z. Contains (f y ∷ map f ys) (f z)) h (contains_head (f y) (map f ys))
      | inr d ↦ contains_tail (f y) (f x) (map f ys) (contains_map f ys x d)
    ]

pub in_map : {A B : Type 0} (f : A → B) (xs : List A) (y : B) → Contains (map f xs) y → (x : A) × Contains xs x × (f x ≡ y)
in_map f [] y c = absurd (contains_none y c)
in_map f (x ∷ xs) y c = elim (contains_cases (f x) y (map f xs) c) [ inl e ↦ (x, contains_head x xs, e) | inr d ↦ let e = in_map f xs y d in (e.0, contains_tail x e.0 xs e.1, e.2) ]

pub in_flat_map : {A B : Type 0} (f : A → List B) (xs : List A) (y : B) → Contains (flat_map f xs) y → (x : A) × Contains xs x × Contains (f x) y
in_flat_map f [] y c = absurd (contains_none y c)
in_flat_map f (x ∷ xs) y c =
    elim (Contains-append_cases (f x) (flat_map f xs) y c) [
      | inl d ↦ (x, contains_head x xs, d)
      | inr d ↦ let e = in_flat_map f xs y d in (e.0, contains_tail x e.0 xs e.1, e.2)
    ]

pub to_flat_map : {A B : Type 0} (f : A → List B) (xs : List A) (x : A) (y : B) → Contains xs x → Contains (f x) y → Contains (flat_map f xs) y
to_flat_map f [] x y c d = absurd (contains_none x c)
to_flat_map f (z ∷ xs) x y c d =
    elim (contains_cases z x xs c) [
      | inl e ↦ Contains-append_left (f z) (flat_map f xs) y (subst (λ w. Contains (f w) y) (sym e) d)
      | inr e ↦ Contains-append_right (f z) (flat_map f xs) y (to_flat_map f xs x y e d)
    ]

-- ---- empty lists

-- what contains nothing is empty
pub nothing : {A : Type 0} (xs : List A) → ((y : A) → Contains xs y → ⊥) → xs ≡ []
nothing [] h = refl
nothing (x ∷ xs) h = absurd (h x (contains_head x xs))

pub no_place : {A : Type 0} (x : A) (xs : List A) → (x ∷ xs) ≡ [] → ⊥
no_place x xs h = absurd (omega (arith, ap length h))

-- two lists that together are empty
pub empty_left : {A : Type 0} (xs ys : List A) → xs ++ ys ≡ [] → xs ≡ []
empty_left [] ys h = refl
empty_left (x ∷ xs) ys h = absurd (no_place x (xs ++ ys) h)

pub empty_right : {A : Type 0} (xs ys : List A) → xs ++ ys ≡ [] → ys ≡ []
empty_right [] ys h = h
empty_right (x ∷ xs) ys h = absurd (no_place x (xs ++ ys) h)

-- ---- lists of which all pass a test

pub every_append : {A : Type 0} (test : A → Bool) (xs ys : List A) → IsTrue (every test xs) → IsTrue (every test ys) → IsTrue (every test (xs ++ ys))
every_append test [] ys h j = j
every_append test (x ∷ xs) ys h j = and_both (test x) (every test (xs ++ ys)) (and_left (test x) (every test xs) h) (every_append test xs ys (and_right (test x) (every test xs) h) j)

pub every_map : {A B : Type 0} (test : B → Bool) (f : A → B) (xs : List A) → IsTrue (every (λ x. test (f x)) xs) → IsTrue (every test (map f xs))
every_map test f [] h = refl
every_map test f (x ∷ xs) h = and_both (test (f x)) (every test (map f xs)) (and_left (test (f x)) (every (λ z. test (f z)) xs) h) (every_map test f xs (and_right (test (f x)) (every (λ z. test (f z)) xs) h))

-- what all pass when each of the ones that pass another test does
pub every_weaker : {A : Type 0} (test other : A → Bool) → ((x : A) → IsTrue (test x) → IsTrue (other x)) → (xs : List A) → IsTrue (every test xs) → IsTrue (every other xs)
every_weaker test other f [] h = refl
every_weaker test other f (x ∷ xs) h = and_both (other x) (every other xs) (f x (and_left (test x) (every test xs) h)) (every_weaker test other f xs (and_right (test x) (every test xs) h))

pub every_member : {A : Type 0} (test : A → Bool) (xs : List A) (x : A) → IsTrue (every test xs) → Contains xs x → IsTrue (test x)
every_member test [] x h c = absurd (contains_none x c)
every_member test (y ∷ xs) x h c =
    elim (contains_cases y x xs c) [
      | inl e ↦ subst (λ z. IsTrue (test z)) e (and_left (test y) (every test xs) h)
      | inr d ↦ every_member test xs x (and_right (test y) (every test xs) h) d
    ]

-- all pass where each member does
pub every_of : {A : Type 0} (test : A → Bool) (xs : List A) → ((x : A) → Contains xs x → IsTrue (test x)) → IsTrue (every test xs)
every_of test [] f = refl
every_of test (x ∷ xs) f = and_both (test x) (every test xs) (f x (contains_head x xs)) (every_of test xs (λ y c. f y (contains_tail x y xs c)))

-- ---- what is found, and first places

-- what is found passes the test, and is one of the list
pub find_passes : {A : Type 0} (test : A → Bool) (xs : List A) (x : A) → find test xs ≡ Some x → IsTrue (test x)
find_passes test [] x h = not_none x h
find_passes test (y ∷ ys) x h = by (test y) refl h (find_passes test ys x)
  where
    by : (b : Bool) → test y ≡ b → cond b (Some y) (find test ys) ≡ Some x → (find test ys ≡ Some x → IsTrue (test x)) → IsTrue (test x)
    by true t g more = subst (λ z. IsTrue (test z)) (same_Some y x g) t
    by false t g more = more g

pub find_in : {A : Type 0} (test : A → Bool) (xs : List A) (x : A) → find test xs ≡ Some x → Contains xs x
find_in test [] x h = not_none x h
find_in test (y ∷ ys) x h = by (test y) h (find_in test ys x)
  where
    by : (b : Bool) → cond b (Some y) (find test ys) ≡ Some x → (find test ys ≡ Some x → Contains ys x) → Contains (y ∷ ys) x
    by true g more = subst (Contains (y ∷ ys)) (same_Some y x g) (contains_head y ys)
    by false g more = contains_tail y x ys (more g)

found_from : {A : Type 0} (test : A → Bool) (n : ℕ) (xs : List A) (x : A) → find test xs ≡ Some x → (i : ℕ) × (position_from test n xs ≡ Some i)
found_from test n [] x h = not_none x h
found_from test n (y ∷ ys) x h = by (test y) h (found_from test (n + 1) ys x)
  where
    by : (b : Bool) → cond b (Some y) (find test ys) ≡ Some x → (find test ys ≡ Some x → (i : ℕ) × (position_from test (n + 1) ys ≡ Some i)) → (i : ℕ) × (cond b (Some n) (position_from test (n + 1) ys) ≡ Some i)
    by true g more = (n, refl)
    by false g more = more g

-- it has a place
pub find_place : {A : Type 0} (test : A → Bool) (xs : List A) (x : A) → find test xs ≡ Some x → (i : ℕ) × (position test xs ≡ Some i)
find_place test xs x h = let r = found_from test 0 xs x h in (r.0, position_from-zero test xs ∙ r.1)

abbrev pub more : ℕ → Option ℕ → Option ℕ
more n = option_map (λ i. i + n)

shift : {X : Type 0} (q : X → Bool) (i n : ℕ) (xs : List X) → position_from q (i + n) xs ≡ more n (position_from q i xs)
shift q i n [] = refl
shift q i n (x ∷ xs) = by (q x) (let same : (i + n) + 1 ≡ (i + 1) + n = omega arith in ap (λ m. position_from q m xs) same ∙ shift q (i + 1) n xs)
  where
    by : (b : Bool) → position_from q ((i + n) + 1) xs ≡ more n (position_from q (i + 1) xs) → cond b (Some (i + n)) (position_from q ((i + n) + 1) xs) ≡ more n (cond b (Some i) (position_from q (i + 1) xs))
    by true h = refl
    by false h = h

-- the first place in a list with one more in front
pub position_cons : {X : Type 0} (q : X → Bool) (x : X) (xs : List X) → position q (x ∷ xs) ≡ cond (q x) (Some 0) (more 1 (position q xs))
position_cons q x xs = position_from-zero q (x ∷ xs) ∙ ap (cond (q x) (Some 0)) (shift q 0 1 xs ∙ ap (more 1) (sym (position_from-zero q xs)))
