-- First places in lists.
use Rattle.std.proofs.Common.{◌≡◌, ℕ, ◌+◌, ◌<◌, Bool, true, false, cond, List, [], ◌∷◌, ◌++◌, length, position, find, nat_lt, is_some, Option, None, Some, Result, Ok, Err, IfOk, refl, sym, ap, ◌∙◌, arith}
use Rattle.std.specs.List.{position_from}
use Rattle.std.specs.Option.{option_map, option_or}
use Rattle.std.proofs.lemmas.Iterator.Adapters.{position_from-zero}
use Rattle.std.proofs.lemmas.Bool.Decides.{nat_tests}
use Rattle.c_syntax.specs.Expressions.{Id}
use Rattle.typing_spec.specs.Declarations.{same_name}
use Rattle.typing_spec.specs.Contexts.{Variable}
use Rattle.typing_symbols.proofs.Places.{place_within}
use Rattle.typed_program.specs.Numbers.{Around, Meaning, OfQuantifier, OfFunction, OwnField, meaning_at, own_field, place_of}
use Rattle.std.specs.Str.{bytes_eq}

abbrev more : ℕ → Option ℕ → Option ℕ
more n = option_map (λ i. i + n)

shift : {X : Type 0} (q : X → Bool) (i n : ℕ) (xs : List X) → position_from q (i + n) xs ≡ more n (position_from q i xs)
shift q i n [] = refl
shift q i n (x ∷ xs) = by (q x) (let same : (i + n) + 1 ≡ (i + 1) + n = omega arith in ap (λ k. position_from q k xs) same ∙ shift q (i + 1) n xs)
  where
    by : (b : Bool) → position_from q ((i + n) + 1) xs ≡ more n (position_from q (i + 1) xs) → cond b (Some (i + n)) (position_from q ((i + n) + 1) xs) ≡ more n (cond b (Some i) (position_from q (i + 1) xs))
    by true h = refl
    by false h = h

-- the first place in one list behind another
pub position_append : {X : Type 0} (q : X → Bool) (xs ys : List X) → position q (xs ++ ys) ≡ option_or (position q xs) (more (length xs) (position q ys))
position_append q xs ys =
    let start : 0 ≡ 0 + 0 = omega arith in
    position_from-zero q (xs ++ ys) ∙ go q 0 xs ys ∙ ap (λ o. option_or o (more (length xs) (position_from q 0 ys))) (sym (position_from-zero q xs)) ∙ ap (λ o. option_or (position q xs) (more (length xs) o)) (sym (position_from-zero q ys))
  where
    go : {X : Type 0} (q : X → Bool) (i : ℕ) (xs ys : List X) → position_from q i (xs ++ ys) ≡ option_or (position_from q i xs) (more (length xs) (position_from q i ys))
    go q i [] ys = let none : i + 0 ≡ i = omega arith in ap (λ k. position_from q k ys) (sym none) ∙ shift q i 0 ys
    go q i (x ∷ xs) ys = by (q x) (go q (i + 1) xs ys ∙ ap (option_or (position_from q (i + 1) xs)) (ap (more (length xs)) (shift q i 1 ys) ∙ twice (position_from q i ys)))
      where
        twice : (o : Option ℕ) → more (length xs) (more 1 o) ≡ more (length (x ∷ xs)) o
        twice None = refl
        twice (Some k) = let same : (k + 1) + length xs ≡ k + length (x ∷ xs) = omega arith in ap Some same

        by : (b : Bool) → position_from q (i + 1) (xs ++ ys) ≡ option_or (position_from q (i + 1) xs) (more (length (x ∷ xs)) (position_from q i ys))
            → cond b (Some i) (position_from q (i + 1) (xs ++ ys)) ≡ option_or (cond b (Some i) (position_from q (i + 1) xs)) (more (length (x ∷ xs)) (position_from q i ys))
        by true h = refl
        by false h = h

-- the first place in a list with one more in front
pub position_cons : {X : Type 0} (q : X → Bool) (x : X) (xs : List X) → position q (x ∷ xs) ≡ cond (q x) (Some 0) (more 1 (position q xs))
position_cons q x xs = position_from-zero q (x ∷ xs) ∙ ap (cond (q x) (Some 0)) (shift q 0 1 xs ∙ ap (more 1) (sym (position_from-zero q xs)))

-- a loop's step, where the first isn't the one
pub passed : {X : Type 0} (q : X → Bool) (all : Option ℕ) (n : ℕ) (rest : List X) (x : X) (xs : List X) → rest ≡ x ∷ xs → q x ≡ false → all ≡ more n (position q rest) → all ≡ more (n + 1) (position q xs)
passed q all n rest x xs is other e =
    e ∙ ap (λ l. more n (position q l)) is ∙ ap (more n) (position_cons q x xs ∙ ap (λ b. cond b (Some 0) (more 1 (position q xs))) other) ∙ twice (position q xs)
  where
    twice : (o : Option ℕ) → more n (more 1 o) ≡ more (n + 1) o
    twice None = refl
    twice (Some k) = let same : (k + 1) + n ≡ k + (n + 1) = omega arith in ap Some same

-- where it is the one
pub here : {X : Type 0} (q : X → Bool) (all : Option ℕ) (n : ℕ) (rest : List X) (x : X) (xs : List X) → rest ≡ x ∷ xs → q x ≡ true → all ≡ more n (position q rest) → Some n ≡ all
here q all n rest x xs is same e =
    let start : n ≡ 0 + n = omega arith in
    ap Some start ∙ sym (e ∙ ap (λ l. more n (position q l)) is ∙ ap (more n) (position_cons q x xs ∙ ap (λ b. cond b (Some 0) (more 1 (position q xs))) same))

-- at the end
pub nowhere : {X : Type 0} (q : X → Bool) (all : Option ℕ) (n : ℕ) (rest : List X) → rest ≡ [] → all ≡ more n (position q rest) → None ≡ all
nowhere q all n rest is e = sym (e ∙ ap (λ l. more n (position q l)) is)

-- what is found has a first place, and what isn't has none
pub some_place : {X : Type 0} (q : X → Bool) (xs : List X) → is_some (find q xs) ≡ is_some (position q xs)
some_place q [] = refl
some_place q (x ∷ xs) = by (q x) (some_place q xs) ∙ ap is_some (sym (position_cons q x xs))
  where
    grown : (o : Option ℕ) → is_some o ≡ is_some (more 1 o)
    grown None = refl
    grown (Some k) = refl

    by : (b : Bool) → is_some (find q xs) ≡ is_some (position q xs) → is_some (cond b (Some x) (find q xs)) ≡ is_some (cond b (Some 0) (more 1 (position q xs)))
    by true h = refl
    by false h = h ∙ grown (position q xs)

-- ---- what a bare name is, where these variables are quantifiers' and those behind them the function's

module _ (a : Around) (x : Id) (qs vs : List Variable) (all : a.context.scope.variables ≡ qs ++ vs) (bound : a.bound ≡ length qs) where
  at_place : position (λ v. same_name v.name x) a.context.scope.variables ≡ option_or (position (λ v. same_name v.name x) qs) (more (length qs) (position (λ v. same_name v.name x) vs))
  at_place = ap (position (λ v. same_name v.name x)) all ∙ position_append (λ v. same_name v.name x) qs vs

  below : (i : ℕ) → nat_lt i a.bound ≡ true → meaning_at a x (Some i) ≡ OfQuantifier i
  below i h = ap (λ b. cond b (OfQuantifier i) (OfFunction (place_of (λ n. bytes_eq n x.name) a.names))) h

  above : (i : ℕ) → nat_lt i a.bound ≡ false → meaning_at a x (Some i) ≡ OfFunction (place_of (λ n. bytes_eq n x.name) a.names)
  above i h = ap (λ b. cond b (OfQuantifier i) (OfFunction (place_of (λ n. bytes_eq n x.name) a.names))) h

  pub of_quantifier : (i : ℕ) → Some i ≡ position (λ v. same_name v.name x) qs → OfQuantifier i ≡ meaning_at a x (position (λ v. same_name v.name x) a.context.scope.variables)
  of_quantifier i e =
      let within = place_within (λ v. same_name v.name x) qs i e in
      let test : nat_lt i a.bound ≡ true = grind (arith, nat_tests, within, bound) in
      sym (ap (meaning_at a x) (at_place ∙ ap (λ o. option_or o (more (length qs) (position (λ v. same_name v.name x) vs))) (sym e)) ∙ below i test)

  pub of_function : None ≡ position (λ v. same_name v.name x) qs → is_some (find (λ v. same_name v.name x) vs) ≡ true → (n : ℕ) → n ≡ place_of (λ m. bytes_eq m x.name) a.names
      → OfFunction n ≡ meaning_at a x (position (λ v. same_name v.name x) a.context.scope.variables)
  of_function e h n place =
      ap OfFunction place ∙ sym (ap (meaning_at a x) (at_place ∙ ap (λ o. option_or o (more (length qs) (position (λ v. same_name v.name x) vs))) (sym e)) ∙ by (position (λ v. same_name v.name x) vs) (sym (some_place (λ v. same_name v.name x) vs) ∙ h))
    where
      by : (o : Option ℕ) → is_some o ≡ true → meaning_at a x (more (length qs) o) ≡ OfFunction (place_of (λ m. bytes_eq m x.name) a.names)
      by None k = absurd cc
      by (Some k) t = let test : nat_lt (k + length qs) a.bound ≡ false = grind (arith, nat_tests, bound) in above (k + length qs) test

  pub of_own : None ≡ position (λ v. same_name v.name x) qs → is_some (find (λ v. same_name v.name x) vs) ≡ false → (n : ℕ) → n ≡ own_field a.context.scope.items a.context.scope.this x
      → OwnField n ≡ meaning_at a x (position (λ v. same_name v.name x) a.context.scope.variables)
  of_own e h n own =
      ap OwnField own ∙ sym (ap (meaning_at a x) (at_place ∙ ap (λ o. option_or o (more (length qs) (position (λ v. same_name v.name x) vs))) (sym e)) ∙ by (position (λ v. same_name v.name x) vs) (sym (some_place (λ v. same_name v.name x) vs) ∙ h))
    where
      by : (o : Option ℕ) → is_some o ≡ false → meaning_at a x (more (length qs) o) ≡ OwnField (own_field a.context.scope.items a.context.scope.this x)
      by None k = refl
      by (Some k) t = absurd cc

-- an answer under a premise that holds
pub given : {X E : Type 0} (P : Type 0) (Q : X → Type 0) (r : Result X E) → P → IfOk r (λ m. P → Q m) → IfOk r Q
given P Q (Ok x) p h = h p
given P Q (Err e) p h = h

pub is_some_map : {X Y : Type 0} (f : X → Y) (o : Option X) → is_some (option_map f o) ≡ is_some o
is_some_map f None = refl
is_some_map f (Some x) = refl
