-- Which objects stand in a list, and that a list names each once.
use Rattle.std.proofs.Common.{◌≡◌, ℕ, ◌+◌, ◌<◌, ◌≤◌, Bool, true, false, cond, not, ◌&&◌, List, [], ◌∷◌, length, get_or, drop, Some, refl, sym, ap, ◌∙◌, add-one, drop-cons}
use Rattle.std.specs.Prelude.{nat_lt, ◌^◌}
use Rattle.std.specs.List.{find}
use Rattle.std.proofs.lemmas.List.{drop_all}
use Rattle.std.proofs.lemmas.Bool.{and_parts, and_from}
use Rattle.object_types.specs.declared.references.Ref.{Ref}
use Rattle.object_types.specs.declared.records.Stored.{Stored}
use Rattle.object_types.specs.References.{same_ref, ref_lt}
use Rattle.object_types.specs.Sets.{every, is_in, is_ordered, ordered_from, all_distinct}
use Rattle.object_types.specs.Fields.{kept_lt, is_set}
use Rattle.object_types.specs.Shapes.{entry_lt}
use Rattle.object_types.specs.Lookups.{record_or_nothing, look_up, is_tidy, IsKept}
use Rattle.ownership.proofs.Lists.{in_none}
use Rattle.ownership.proofs.Counting.{before_all, tail_ordered}

-- a loop that asks for each element

module _ {X : Type 0} (test : X → Bool) (xs : List X) (i : ℕ) (far : every test (drop i xs) ≡ every test xs) where
  module _ (d : X) (lt : i < length xs) where
    here : (test (get_or xs i d) && every test (drop (i + 1) xs)) ≡ every test xs
    here = ap (λ zs. test (get_or xs i d) && every test zs) (λ j. drop (add-one i j) xs) ∙ ap (every test) (sym (drop-cons xs i d lt)) ∙ far

    pub every_next : test (get_or xs i d) ≡ true → every test (drop (i + 1) xs) ≡ every test xs
    every_next e = ap (λ b. b && every test (drop (i + 1) xs)) (sym e) ∙ here

    pub every_fails : test (get_or xs i d) ≡ false → false ≡ every test xs
    every_fails e = ap (λ b. b && every test (drop (i + 1) xs)) (sym e) ∙ here

  pub every_end : length xs ≤ i → true ≡ every test xs
  every_end ge = ap (every test) (sym (drop_all i xs ge)) ∙ far

-- a loop that asks for each object whether it stands in those behind it

pub distinct_fails : (os later rest : List Ref) (o : Ref) (b : Bool) → all_distinct rest ≡ all_distinct os → rest ≡ o ∷ later → b ≡ is_in o later → b ≡ true → false ≡ all_distinct os
distinct_fails os later rest o b far is among e = ap (λ c. not c && all_distinct later) (sym e ∙ among) ∙ ap all_distinct (sym is) ∙ far

pub distinct_next : (os later rest : List Ref) (o : Ref) (b : Bool) → all_distinct rest ≡ all_distinct os → rest ≡ o ∷ later → b ≡ is_in o later → b ≡ false → all_distinct later ≡ all_distinct os
distinct_next os later rest o b far is among e = ap (λ c. not c && all_distinct later) (sym e ∙ among) ∙ ap all_distinct (sym is) ∙ far

-- what a kept heap has as a set names each object once

first_once : (x : Ref) (xs : List Ref) → ordered_from ref_lt x xs ≡ true → is_in x xs ≡ false
first_once x [] h = in_none x
first_once x (y ∷ ys) h = let parts = and_parts (ref_lt x y) (ordered_from ref_lt y ys) h in before_all x y ys parts.0 parts.1

ordered_distinct : (xs : List Ref) → is_ordered ref_lt xs ≡ true → all_distinct xs ≡ true
ordered_distinct [] h = refl
ordered_distinct (x ∷ xs) h = and_from (not (is_in x xs)) (all_distinct xs) (ap not (first_once x xs h)) (ordered_distinct xs (tail_ordered x xs h))

fourth : (a b c d e : Bool) → (a && (b && (c && (d && e)))) ≡ true → d ≡ true
fourth a b c d e h = (and_parts d e (and_parts c (d && e) (and_parts b (c && (d && e)) (and_parts a (b && (c && (d && e))) h).1).1).1).0

tidy_listed : (s : Stored) → is_tidy s ≡ true → is_ordered ref_lt s.listed ≡ true
tidy_listed s h = fourth (nat_lt s.reference.serial (2 ^ 32)) (nat_lt s.reference.ty (2 ^ 32)) (is_ordered ref_lt s.owned) (is_ordered ref_lt s.listed) (is_ordered kept_lt s.fields && (every is_set s.fields && is_ordered entry_lt s.shapes)) h

listed_ordered : (ss : List Stored) (q : Ref) → every is_tidy ss ≡ true → is_ordered ref_lt (look_up ss q).listed ≡ true
listed_ordered [] q h = refl
listed_ordered (s ∷ ss) q h = let b = and_parts (is_tidy s) (every is_tidy ss) h in by_test (same_ref q s.reference) b.0 (listed_ordered ss q b.1)
  where
    by_test : (t : Bool) → is_tidy s ≡ true → is_ordered ref_lt (look_up ss q).listed ≡ true → is_ordered ref_lt (record_or_nothing (cond t (Some s) (find (λ (z : Stored). same_ref q z.reference) ss))).listed ≡ true
    by_test true tidy rest = tidy_listed s tidy
    by_test false tidy rest = rest

pub listed_distinct : (ss : List Stored) (q : Ref) → IsKept ss → all_distinct (look_up ss q).listed ≡ true
listed_distinct ss q kept = ordered_distinct (look_up ss q).listed (listed_ordered ss q kept.tidy)
