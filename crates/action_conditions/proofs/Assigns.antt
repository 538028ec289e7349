-- The values of expressions assigned to variables and fields, outside atomic blocks.
use Rattle.std.proofs.Common.{◌≡◌, ℕ, ◌+◌, ◌==◌, Bool, true, false, List, [], ◌++◌, length, Option, Some, None, slice_get, refl, ap, sym, ◌∙◌, arith}
use Rattle.object_types.specs.declared.references.Ref.{Ref}
use Rattle.object_types.specs.declared.values.Value.{Value}
use Rattle.object_types.specs.References.{is_thread}
use Rattle.method.specs.declared.program.FieldInfo.{FieldInfo}
use Rattle.method.specs.declared.program.Expr.{Expr}
use Rattle.method.specs.declared.program.Target.{Target}
use Rattle.method.specs.declared.program.Target.TheVariants.{Local, FieldOf}
use Rattle.method.specs.declared.program.RightSide.TheVariants.{Compute}
use Rattle.method.specs.declared.program.Simple.TheVariants.{Assign}
use Rattle.method.specs.declared.program.FunctionInfo.{FunctionInfo}
use Rattle.method.specs.declared.program.Program.{Program}
use Rattle.method.specs.Typing.{Values, Ints, Nulls, Refs, are_ints, point_to, field_takes, values, takes, WellTyped}
use Rattle.method.specs.Expressions.{Spot as MachineSpot, Gives as MachineGives, checks, eval}
use Rattle.method.specs.Expressions as q
use Rattle.method.specs.Actions.{Progress, Tally, Valued}
use Rattle.method.specs.Actions as m
use Rattle.method.proofs.Global.{and_both}
use Rattle.machine_laws.proofs.Typed.{Env}
use Rattle.machine_laws.proofs.Steps.{PlaceOk}
use Rattle.machine_laws.proofs.Simple.{test_some, takes_some, left_gave}
use Rattle.term_meaning.specs.Meaning.{Language}
use Rattle.conditions.specs.Symbolic.{Symbolic}
use Rattle.conditions.specs.Paths.{Done, after, sequence}
use Rattle.conditions.specs.Code.{Spot, State, code}
use Rattle.conditions.specs.Actions.{left_side, right_side, store, run_simple}
use Rattle.conditions.specs.Actions as p
use Rattle.conditions.proofs.FromRuns.{count_of, IsWithin}
use Rattle.conditions.proofs.Tests.{AllTrue, Ends, all_first, all_behind, at_place, nothing_behind, plain, tests, ends_after, ends_all, ends_eval, tests_many}
use Rattle.conditions.proofs.PathTests.{IsChecks, Tested, tested_done, tested_joined}
use Rattle.conditions.proofs.Expressions.{Uses}
use Rattle.condition_meaning.proofs.Environments.{Environment, Is}
use Rattle.action_conditions.proofs.Places.{Fits, Stated}
use Rattle.action_conditions.proofs.Stores.{stored_progress, store_tests, ends_store, left_tests, plain_left, ends_left, left_many, on_gave, passed_of, storable_by, FitsLeft, code_tested, code_stands, left_tested, left_is, store_tested, store_stated}
use Rattle.action_conditions.proofs.Alone.{Alone}

-- it reads nothing hidden
abbrev pub Sees : (ℕ → Bool) → Expr → Type 0
Sees hid y = Uses (λ i. hid i ≡ false) (λ g. Unit {0}) y

-- a left side reads nothing hidden
abbrev pub SeesTarget : (ℕ → Bool) → Target → Type 0
SeesTarget hid (Local i) = Unit {0}
SeesTarget hid (FieldOf y n) = Sees hid y

pub points_ints : (ok : ℕ → Bool) (u : Values) → point_to ok u ≡ true → are_ints u ≡ false
points_ints ok (Ints a b) e = absurd (cc)
points_ints ok Nulls e = refl
points_ints ok (Refs ty) e = refl

field_points : (p : Program) (f : FunctionInfo) (o : Option FieldInfo) (u vs : Values) → field_takes p f o u (Some vs) ≡ true → are_ints u ≡ false
field_points p f None u vs e = absurd (cc)
field_points p f (Some i) u vs e = points_ints (λ n. n == i.of) u (and_both (point_to (λ n. n == i.of) u) _ e).0

pub left_fits : (l : Language) (typed : WellTyped l.program) (t : Ref) (f : FunctionInfo) (a : Spot) (at_ : MachineSpot) (mine : at_.context.me ≡ t) (thread : is_thread at_.context.me ≡ true) (out : at_.inside ≡ false) (hid : ℕ → Bool) (e : Environment l t) (y : Target) (vs : Values) → takes l.program f y (Some vs) ≡ true → SeesTarget hid y → FitsLeft l typed t f a at_ mine thread out hid e y
left_fits l typed t f a at_ mine thread out hid e (Local i) vs k s = tt
left_fits l typed t f a at_ mine thread out hid e (FieldOf y n) vs k s =
    let u = test_some l.program f (values l.program f y) (λ v. field_takes l.program f (slice_get l.program.fields.items n) v (Some vs)) k in
    record { fits = record { values_are = u.0; typed = u.1; seen = s }; refers = field_points l.program f (slice_get l.program.fields.items n) u.0 vs u.2 }

module _ (l : Language) (typed : WellTyped l.program) (t : Ref) (f : FunctionInfo) (a : Spot) (at_ : MachineSpot) (mine : at_.context.me ≡ t) (thread : is_thread at_.context.me ≡ true) (out : at_.inside ≡ false) (hid : ℕ → Bool) (st : State) (g : Progress) (env : Env l.program f g.heap g.locals) where
  abbrev P : Program
  P = l.program

  abbrev V : Expr → Value
  V = plain P at_ g.heap g.locals

  abbrev B : Expr → List Bool
  B = tests P at_ g.heap g.locals

  -- where the left side's tests pass, a value of these kinds may go there
  pub left_ok : (y : Target) (vs : Values) → takes P f y (Some vs) ≡ true → AllTrue (left_tests P at_ y g) → PlaceOk P typed f at_ thread (plain_left P at_ y g) vs
  left_ok y vs k b =
      on_gave (m.left_side P at_ y 0 g) (λ place. PlaceOk P typed f at_ thread place vs) (plain_left P at_ y g) (left_gave P typed f at_ thread g env y vs 0 k) (ends_all (left_tests P at_ y g) 0 (plain_left P at_ y g) (m.left_side P at_ y 0 g) (ends_left P at_ y 0 g) b)

  abbrev computed : Expr → Valued
  computed y = record { value = V y; starting = g }

  -- the value of an expression, as a right side
  ends_computed : (y : Expr) (place : m.Place) (n : ℕ) (tally : Tally) → Ends (B y ++ []) n (computed y) (m.right_side P at_ (Compute y) place n tally g)
  ends_computed y place n tally = ends_after (B y) [] n (V y) (computed y) (eval P at_ g.heap g.locals y n) (λ v. MachineGives (record { value = v; starting = g })) (ends_eval P at_ g.heap g.locals y n) refl

  computed_many : (y : Expr) → length (B y ++ []) ≡ checks y
  computed_many y = ap length (nothing_behind (B y)) ∙ tests_many P at_ g.heap g.locals y

  -- *left = y
  pub assign_alone : (z : Target) (y : Expr) (n : ℕ) (tally : Tally) (k : ℕ) → SeesTarget hid z → Sees hid y → takes P f z (values P f y) ≡ true → Alone l t a at_ hid hid n (m.run_simple P at_ (Assign z (Compute y)) n tally g) st g.heap g.locals (run_simple P a (Assign z (Compute y)) st)
  assign_alone z y n tally k sees sees_y ok =
      let vs = takes_some P typed f at_ thread z (values P f y) ok in
      let fits : Fits P f hid y = record { values_are = vs.0; typed = vs.1; seen = sees_y } in
      let place = plain_left P at_ z g in
      let ls = left_tests P at_ z g in
      let ss = store_tests P at_ place g in
      record {
        passed = ls ++ ((B y ++ []) ++ ss);
        result = stored_progress place (V y) g;
        ends =
            ends_after ls ((B y ++ []) ++ ss) n place (stored_progress place (V y) g) (m.left_side P at_ z n g) (λ place. q.after (m.right_side P at_ (Compute y) place (n + m.target_checks z) tally g) (λ v. m.store P at_ place v.value (n + m.target_checks z + checks y) v.starting)) (ends_left P at_ z n g)
            (at_place ((B y ++ []) ++ ss) (n + m.target_checks z) (n + length ls) (stored_progress place (V y) g) (q.after (m.right_side P at_ (Compute y) place (n + m.target_checks z) tally g) (λ v. m.store P at_ place v.value (n + m.target_checks z + checks y) v.starting)) (ap (λ j. n + j) (sym (left_many P at_ z g)))
            (ends_after (B y ++ []) ss (n + m.target_checks z) (computed y) (stored_progress place (V y) g) (m.right_side P at_ (Compute y) place (n + m.target_checks z) tally g) (λ v. m.store P at_ place v.value (n + m.target_checks z + checks y) v.starting) (ends_computed y place (n + m.target_checks z) tally)
            (at_place ss (n + m.target_checks z + checks y) (n + m.target_checks z + length (B y ++ [])) (stored_progress place (V y) g) (m.store P at_ place (V y) (n + m.target_checks z + checks y) g) (ap (λ j. n + m.target_checks z + j) (sym (computed_many y)))
            (ends_store P at_ place (V y) (n + m.target_checks z + checks y) g))));
        within = store_within (left_side P a z st).gives (code P a st y).gives;
        tested = λ e s.
            let lf = left_fits l typed t f a at_ mine thread out hid e z vs.0 vs.2 sees in
            tested_joined (Is l t e) (left_side P a z st).path _ ls ((B y ++ []) ++ ss) (checks_behind e s z y sees fits vs.0 vs.2) (left_tested l typed t f a at_ mine thread out hid e st g env s z lf) (λ b. behind_left e s z y sees fits vs.0 vs.2);
        stated = λ e s b.
            let lf = left_fits l typed t f a at_ mine thread out hid e z vs.0 vs.2 sees in
            let ys = all_first (B y) [] (all_first (B y ++ []) ss (all_behind ls ((B y ++ []) ++ ss) b)) in
            store_stated l typed t f a at_ mine thread out hid e st g env s hid (λ j h. h) (left_side P a z st).gives place (code P a st y).gives (V y) (left_is l typed t f a at_ mine thread out hid e st g env s z lf) (code_stands l typed t f a at_ mine thread out hid e st g env s y fits)
            (storable_by l typed t f a at_ mine thread place vs.0 (V y) (left_ok z vs.0 vs.2 (all_first ls ((B y ++ []) ++ ss) b)) (passed_of l typed t f a at_ mine thread g env y vs.0 vs.1 ys));
      }
    where
      store_within : (x : p.Place) (w : Symbolic) → IsWithin (count_of st) (count_of (store P a x w st).gives)
      store_within (p.InLocal i) w = record { integers = omega arith; references = omega arith; heaps = omega arith }
      store_within (p.InField o i) w = record { integers = omega arith; references = omega arith; heaps = omega arith }

      behind_left : (e : Environment l t) → Stated l t hid a at_ st g.heap g.locals e → (z : Target) (y : Expr) → SeesTarget hid z → Fits P f hid y → (vs : Values) → takes P f z (Some vs) ≡ true
          → Tested (Is l t e) (after (right_side P a (Compute y) (left_side P a z st).gives st) (λ v. store P a (left_side P a z st).gives v.value v.state)).path ((B y ++ []) ++ store_tests P at_ (plain_left P at_ z g) g)
      behind_left e s z y sees fits vs ok =
          let lf = left_fits l typed t f a at_ mine thread out hid e z vs ok sees in
          let st_t = store_tested l typed t f a at_ mine thread out hid e st g env s (left_side P a z st).gives (plain_left P at_ z g) (code P a st y).gives (left_is l typed t f a at_ mine thread out hid e st g env s z lf) in
          tested_joined (Is l t e) (sequence (code P a st y).path Done) (store P a (left_side P a z st).gives (code P a st y).gives st).path (B y ++ []) (store_tests P at_ (plain_left P at_ z g) g) st_t.only_checks
          (tested_joined (Is l t e) (code P a st y).path Done (B y) [] tt (code_tested l typed t f a at_ mine thread out hid e st g env s y fits) (λ b. tested_done (Is l t e)))
          (λ b. st_t)

      checks_behind : (e : Environment l t) → Stated l t hid a at_ st g.heap g.locals e → (z : Target) (y : Expr) → SeesTarget hid z → Fits P f hid y → (vs : Values) → takes P f z (Some vs) ≡ true → IsChecks (after (right_side P a (Compute y) (left_side P a z st).gives st) (λ v. store P a (left_side P a z st).gives v.value v.state)).path
      checks_behind e s z y sees fits vs ok = (behind_left e s z y sees fits vs ok).only_checks
