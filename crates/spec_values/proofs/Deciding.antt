-- How a loop goes through conjuncts, or through the members of a set, until one decides.
use Rattle.std.proofs.Common.{◌≡◌, ℕ, ◌+◌, ◌<◌, ◌≤◌, Bool, true, false, not, ◌&&◌, ◌||◌, List, length, get_or, drop, refl, sym, Option, Some, None, add-one, drop-cons}
use Rattle.std.proofs.lemmas.List.{drop_all}
use Rattle.object_types.specs.declared.references.Ref.{Ref}
use Rattle.object_types.specs.declared.values.Value.TheVariants.{Ref as Refers}
use Rattle.object_types.specs.Sets.{some}
use Rattle.method.specs.declared.program.DeclaredType.{DeclaredType}
use Rattle.method.specs.declared.program.Program.{Program}
use Rattle.method.specs.declared.program.Spec.{Spec}
use Rattle.method.specs.Tables.{in_type}
use Rattle.method.specs.SpecValue.{Scene, holds, bind_ref}
use Rattle.method.specs.Overflow.{Overflow, overflow, list_overflow, until}
use Rattle.spec_values.specs.Quantified.{each_holds, holds_there, overflow_there, of_each, of_each_overflow}

-- what the conjuncts from i on say, all of them say
pub record HeldTo (p : Program) (s : Scene) (es : List Spec) (i : ℕ) : Type 0 where
  pub holds : each_holds p (drop i es) s ≡ each_holds p es s
  pub first : list_overflow p (drop i es) s ≡ list_overflow p es s

module _ (p : Program) (s : Scene) (es : List Spec) (i : ℕ) where
  pub held_err : (d : Spec) (x : Overflow) → HeldTo p s es i → i < length es → overflow p (get_or es i d) s ≡ Some x → list_overflow p es s ≡ Some x
  held_err d x so_far lt err = rw (← so_far.first, drop-cons es i d, err) refl

  pub held_false : (d : Spec) → HeldTo p s es i → i < length es → holds p (get_or es i d) s ≡ false → each_holds p es s ≡ false
  held_false d so_far lt fails = rw (← so_far.holds, drop-cons es i d, fails) refl

  pub held_stops : (d : Spec) → HeldTo p s es i → i < length es → overflow p (get_or es i d) s ≡ None → holds p (get_or es i d) s ≡ false → list_overflow p es s ≡ None
  held_stops d so_far lt fits fails = rw (← so_far.first, drop-cons es i d, fits, fails) refl

  pub held_next : (d : Spec) → HeldTo p s es i → i < length es → overflow p (get_or es i d) s ≡ None → holds p (get_or es i d) s ≡ true → HeldTo p s es (i + 1)
  held_next d so_far lt fits goes = record {
    holds = rw (← so_far.holds, add-one, drop-cons es i d, goes) refl;
    first = rw (← so_far.first, add-one, drop-cons es i d, fits, goes) refl;
  }

  pub held_end : HeldTo p s es i → length es ≤ i → each_holds p es s ≡ true
  held_end so_far ge = rw (← so_far.holds, drop_all i es ge) refl

  pub held_fits : HeldTo p s es i → length es ≤ i → list_overflow p es s ≡ None
  held_fits so_far ge = rw (← so_far.first, drop_all i es ge) refl

against : (b h : Bool) → (not b || h) ≡ false → (b && not h) ≡ true
against true true e = sym e
against true false e = refl
against false h e = sym e

spared : (b h : Bool) → (not b || h) ≡ true → (b && not h) ≡ false
spared true true e = refl
spared true false e = sym e
spared false h e = refl

-- what the members from i on say, all of them say
pub record EachTo (p : Program) (ty : DeclaredType) (e : Spec) (s : Scene) (ms : List Ref) (i : ℕ) : Type 0 where
  pub holds : of_each p ty e s (drop i ms) ≡ of_each p ty e s ms
  pub first : of_each_overflow p ty e s (drop i ms) ≡ of_each_overflow p ty e s ms

module _ (p : Program) (ty : DeclaredType) (e : Spec) (s : Scene) (ms : List Ref) (i : ℕ) where
  pub each_err : (d : Ref) (x : Overflow) → EachTo p ty e s ms i → i < length ms → overflow_there p ty e s (get_or ms i d) ≡ Some x → of_each_overflow p ty e s ms ≡ Some x
  each_err d x so_far lt err = rw (← so_far.first, drop-cons ms i d, err) refl

  pub each_false : (d : Ref) → EachTo p ty e s ms i → i < length ms → holds_there p ty e s (get_or ms i d) ≡ false → of_each p ty e s ms ≡ false
  each_false d so_far lt fails = rw (← so_far.holds, drop-cons ms i d, fails) refl

  pub each_stops : (d : Ref) → EachTo p ty e s ms i → i < length ms → overflow_there p ty e s (get_or ms i d) ≡ None → holds_there p ty e s (get_or ms i d) ≡ false → of_each_overflow p ty e s ms ≡ None
  each_stops d so_far lt fits fails = rw (← so_far.first, drop-cons ms i d, fits, against (in_type ty (Refers (get_or ms i d))) (holds p e (bind_ref (get_or ms i d) s)) fails) refl

  pub each_next : (d : Ref) → EachTo p ty e s ms i → i < length ms → overflow_there p ty e s (get_or ms i d) ≡ None → holds_there p ty e s (get_or ms i d) ≡ true → EachTo p ty e s ms (i + 1)
  each_next d so_far lt fits goes = record {
    holds = rw (← so_far.holds, add-one, drop-cons ms i d, goes) refl;
    first = rw (← so_far.first, add-one, drop-cons ms i d, fits, spared (in_type ty (Refers (get_or ms i d))) (holds p e (bind_ref (get_or ms i d) s)) goes) refl;
  }

  pub each_end : EachTo p ty e s ms i → length ms ≤ i → of_each p ty e s ms ≡ true
  each_end so_far ge = rw (← so_far.holds, drop_all i ms ge) refl

  pub each_fits : EachTo p ty e s ms i → length ms ≤ i → of_each_overflow p ty e s ms ≡ None
  each_fits so_far ge = rw (← so_far.first, drop_all i ms ge) refl

-- the same for a search
pub record SomeTo (test : Ref → Bool) (over : Ref → Option Overflow) (ms : List Ref) (i : ℕ) : Type 0 where
  pub holds : some test (drop i ms) ≡ some test ms
  pub first : until over test (drop i ms) ≡ until over test ms

module _ (test : Ref → Bool) (over : Ref → Option Overflow) (ms : List Ref) (i : ℕ) where
  pub some_err : (d : Ref) (x : Overflow) → SomeTo test over ms i → i < length ms → over (get_or ms i d) ≡ Some x → until over test ms ≡ Some x
  some_err d x so_far lt err = rw (← so_far.first, drop-cons ms i d, err) refl

  pub some_true : (d : Ref) → SomeTo test over ms i → i < length ms → test (get_or ms i d) ≡ true → some test ms ≡ true
  some_true d so_far lt here = rw (← so_far.holds, drop-cons ms i d, here) refl

  pub some_stops : (d : Ref) → SomeTo test over ms i → i < length ms → over (get_or ms i d) ≡ None → test (get_or ms i d) ≡ true → until over test ms ≡ None
  some_stops d so_far lt fits here = rw (← so_far.first, drop-cons ms i d, fits, here) refl

  pub some_on : (d : Ref) → SomeTo test over ms i → i < length ms → over (get_or ms i d) ≡ None → test (get_or ms i d) ≡ false → SomeTo test over ms (i + 1)
  some_on d so_far lt fits fails = record {
    holds = rw (← so_far.holds, add-one, drop-cons ms i d, fails) refl;
    first = rw (← so_far.first, add-one, drop-cons ms i d, fits, fails) refl;
  }

  pub some_end : SomeTo test over ms i → length ms ≤ i → some test ms ≡ false
  some_end so_far ge = rw (← so_far.holds, drop_all i ms ge) refl

  pub some_fits : SomeTo test over ms i → length ms ≤ i → until over test ms ≡ None
  some_fits so_far ge = rw (← so_far.first, drop_all i ms ge) refl
