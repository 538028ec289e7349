-- How loops compare objects that are worked out with the members of a set.
use Rattle.std.proofs.Common.{◌≡◌, ℕ, suc, ◌+◌, ◌<◌, ◌≤◌, Bool, true, false, ◌&&◌, List, length, get_or, drop, refl, sym, ◌∙◌, Option, Some, None, add-one, drop-cons}
use Rattle.std.proofs.lemmas.List.{drop_all}
use Rattle.object_types.specs.declared.references.Ref.{Ref}
use Rattle.object_types.specs.References.{same_ref}
use Rattle.object_types.specs.Values.{referent}
use Rattle.object_types.specs.Sets.{every, is_in}
use Rattle.method.specs.declared.program.Program.{Program}
use Rattle.method.specs.declared.program.Spec.{Spec}
use Rattle.method.specs.SpecValue.{Scene, value}
use Rattle.method.specs.Overflow.{Overflow, overflow, or_else}
use Rattle.spec_values.specs.Quantified.{list_referents, referents_overflow}

abbrev all_in : Program → Scene → List Ref → List Spec → Bool
all_in p s set es = every (λ o. is_in o set) (list_referents p es s)

-- what is known of the objects in front of i, with what those from i on say, all of them say
pub record AllTo (p : Program) (s : Scene) (set : List Ref) (es : List Spec) (i : ℕ) (all : Bool) : Type 0 where
  pub holds : (all && all_in p s set (drop i es)) ≡ all_in p s set es
  pub first : referents_overflow p (drop i es) s ≡ referents_overflow p es s

and_chain : (a b c : Bool) → ((a && b) && c) ≡ (a && (b && c))
and_chain true b c = refl
and_chain false b c = refl

and_true : (a : Bool) → (a && true) ≡ a
and_true true = refl
and_true false = refl

module _ (p : Program) (s : Scene) (set : List Ref) (es : List Spec) (i : ℕ) (all : Bool) where
  pub all_err : (d : Spec) (x : Overflow) → AllTo p s set es i all → i < length es → overflow p (get_or es i d) s ≡ Some x → referents_overflow p es s ≡ Some x
  all_err d x so_far lt err = rw (← so_far.first, drop-cons es i d, err) refl

  pub all_next : (d : Spec) (here : Bool) → AllTo p s set es i all → i < length es → overflow p (get_or es i d) s ≡ None → here ≡ is_in (referent (value p (get_or es i d) s)) set → AllTo p s set es (i + 1) (all && here)
  all_next d here so_far lt fits is = record {
    holds = rw (← so_far.holds, add-one, drop-cons es i d, is) (and_chain all (is_in (referent (value p (get_or es i d) s)) set) (all_in p s set (drop (suc i) es)));
    first = rw (← so_far.first, add-one, drop-cons es i d, fits) refl;
  }

  pub all_end : AllTo p s set es i all → length es ≤ i → all ≡ all_in p s set es
  all_end so_far ge = rw (← so_far.holds, drop_all i es ge) (sym (and_true all))

  pub all_fits : AllTo p s set es i all → length es ≤ i → referents_overflow p es s ≡ None
  all_fits so_far ge = rw (← so_far.first, drop_all i es ge) refl

-- the objects from i on say whether q is one, and none of them overflows
pub record OneTo (p : Program) (s : Scene) (q : Ref) (es : List Spec) (i : ℕ) : Type 0 where
  pub holds : is_in q (list_referents p (drop i es) s) ≡ is_in q (list_referents p es s)
  pub fits : referents_overflow p (drop i es) s ≡ None

first_fits : (a b : Option Overflow) → or_else a b ≡ None → a ≡ None
first_fits None b h = refl
first_fits (Some x) b h = h

rest_fits : (a b : Option Overflow) → or_else a b ≡ None → b ≡ None
rest_fits None b h = h
rest_fits (Some x) b h = absurd (cc)

module _ (p : Program) (s : Scene) (q : Ref) (es : List Spec) (i : ℕ) where
  split : (d : Spec) → OneTo p s q es i → i < length es → or_else (overflow p (get_or es i d) s) (referents_overflow p (drop (i + 1) es) s) ≡ None
  split d so_far lt = rw (← so_far.fits, add-one, drop-cons es i d) refl

  pub one_err : (d : Spec) (x : Option Overflow) → OneTo p s q es i → i < length es → overflow p (get_or es i d) s ≡ x → None ≡ x
  one_err d x so_far lt err = sym (first_fits _ _ (split d so_far lt)) ∙ err

  pub one_true : (d : Spec) → OneTo p s q es i → i < length es → same_ref q (referent (value p (get_or es i d) s)) ≡ true → is_in q (list_referents p es s) ≡ true
  unfolding is_in
  one_true d so_far lt here = rw (← so_far.holds, drop-cons es i d, here) refl

  pub one_next : (d : Spec) → OneTo p s q es i → i < length es → same_ref q (referent (value p (get_or es i d) s)) ≡ false → OneTo p s q es (i + 1)
  unfolding is_in
  one_next d so_far lt other = record {
    holds = rw (← so_far.holds, add-one, drop-cons es i d, other) refl;
    fits = rest_fits _ _ (split d so_far lt);
  }

  pub one_end : OneTo p s q es i → length es ≤ i → is_in q (list_referents p es s) ≡ false
  unfolding is_in
  one_end so_far ge = rw (← so_far.holds, drop_all i es ge) refl

module _ (test : Ref → Bool) (ms : List Ref) (i : ℕ) where
  pub every_false : (d : Ref) → every test (drop i ms) ≡ every test ms → i < length ms → test (get_or ms i d) ≡ false → every test ms ≡ false
  every_false d so_far lt fails = rw (← so_far, drop-cons ms i d, fails) refl

  pub every_next : (d : Ref) → every test (drop i ms) ≡ every test ms → i < length ms → test (get_or ms i d) ≡ true → every test (drop (i + 1) ms) ≡ every test ms
  every_next d so_far lt goes = rw (← so_far, add-one, drop-cons ms i d, goes) refl

  pub every_end : every test (drop i ms) ≡ every test ms → length ms ≤ i → every test ms ≡ true
  every_end so_far ge = rw (← so_far, drop_all i ms ge) refl
