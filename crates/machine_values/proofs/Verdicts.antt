-- How a loop goes through tests up to the first that doesn't pass, and what its verdict says of the checks.
use Rattle.std.proofs.Common.{◌≡◌, ℕ, ◌+◌, ◌<◌, ◌≤◌, Bool, true, false, List, [], ◌∷◌, map, length, get_or, drop, refl, sym, ap, ◌∙◌, subst, Option, Some, None, add-one, drop-cons, Err}
use Rattle.std.proofs.lemmas.List.{drop_all}
use Rattle.method.specs.declared.program.CheckKind.{CheckKind}
use Rattle.method.specs.Overflow.{Overflow}
use Rattle.method.specs.Expressions.{Outcome, Fault, weighed, Spot, check, check_each, check_specs, Tested}
use Rattle.machine_values.specs.declared.stop.Stop.{Stop}
use Rattle.machine_values.specs.declared.stop.Stop.TheVariants.{Misfit as NotEnabled, Fault as Faulted, Wide, Exhausted, OutOfMemory}
use Rattle.machine_values.specs.Answers.{Stops, Tests, Verdict, Passes, Fails, Overflows, one_verdict, verdict, Finds, plain}

module _ {X : Type 0} (f : X → Tested) (xs : List X) (line : ℕ) (kind : CheckKind) (all : Verdict) (i : ℕ) (d : X) (so_far : verdict line kind (map f (drop i xs)) ≡ all) (lt : i < length xs) where
  here : verdict line kind (f (get_or xs i d) ∷ map f (drop (i + 1) xs)) ≡ all
  here = (λ j. verdict line kind (map f (get_or xs i d ∷ drop (add-one i j) xs))) ∙ ap (λ ys. verdict line kind (map f ys)) (sym (drop-cons xs i d lt)) ∙ so_far

  pub test_next : (f (get_or xs i d)).overflow ≡ None → (f (get_or xs i d)).holds ≡ true → verdict line kind (map f (drop (i + 1) xs)) ≡ all
  test_next fits holds = (λ j. one_verdict line kind (sym fits j) (sym holds j) (verdict line kind (map f (drop (i + 1) xs)))) ∙ here

  pub test_fails : (f (get_or xs i d)).overflow ≡ None → (f (get_or xs i d)).holds ≡ false → all ≡ Fails kind line
  test_fails fits holds = sym here ∙ λ j. one_verdict line kind (fits j) (holds j) (verdict line kind (map f (drop (i + 1) xs)))

  pub test_stops : (s : Stop) → Tests (Err s) (f (get_or xs i d)) → Finds (Err s) all
  test_stops NotEnabled t = t
  test_stops (Faulted k l) t = absurd t
  test_stops (Wide w) t = sym here ∙ ap (λ o. one_verdict line kind o (f (get_or xs i d)).holds (verdict line kind (map f (drop (i + 1) xs)))) t
  test_stops Exhausted t = t
  test_stops OutOfMemory t = tt

pub test_end : {X : Type 0} (f : X → Tested) (xs : List X) (line : ℕ) (kind : CheckKind) (all : Verdict) (i : ℕ) → verdict line kind (map f (drop i xs)) ≡ all → length xs ≤ i → all ≡ Passes
test_end f xs line kind all i so_far ge = sym so_far ∙ ap (λ ys. verdict line kind (map f ys)) (drop_all i xs ge)

-- from verdicts to checks

-- what checks with this verdict come to, where o stands behind them
abbrev Says : {A : Type 0} → Verdict → Outcome A → Outcome A → Type 0
Says Passes r o = r ≡ o
Says (Fails kind line) r o = (m : ℕ) × (r ≡ Fault m kind line)
Says (Overflows x) r o = r.overflow ≡ Some x

module _ {A : Type 0} (at_ : Spot) (kind : CheckKind) (o : Outcome A) where
  one_says : (w : Option Overflow) (b : Bool) (n : ℕ) (more : Verdict) (rest : Outcome A) → Says more rest o → Says (one_verdict at_.line kind w b more) (weighed w (check at_ b n kind rest)) o
  one_says (Some x) b n more rest h = refl
  one_says None true n more rest h = h
  one_says None false n more rest h = (n, refl)

  says : (ts : List Tested) (n : ℕ) → Says (verdict at_.line kind ts) (check_specs at_ ts n kind o) o
  says [] n = refl
  says (t ∷ ts) n = one_says t.overflow t.holds n (verdict at_.line kind ts) (check_specs at_ ts (n + 1) kind o) (says ts (n + 1))

  pub checks_pass : (ts : List Tested) (n : ℕ) → verdict at_.line kind ts ≡ Passes → check_specs at_ ts n kind o ≡ o
  checks_pass ts n v = subst (λ z. Says z (check_specs at_ ts n kind o) o) v (says ts n)

  pub checks_stop : (s : Stop) (ts : List Tested) (n : ℕ) → Finds (Err s) (verdict at_.line kind ts) → Stops s (check_specs at_ ts n kind o)
  checks_stop NotEnabled ts n v = absurd v
  checks_stop (Faulted k line) ts n v = subst (λ z. Says z (check_specs at_ ts n kind o) o) v (says ts n)
  checks_stop (Wide w) ts n v = subst (λ z. Says z (check_specs at_ ts n kind o) o) v (says ts n)
  checks_stop Exhausted ts n v = absurd v
  checks_stop OutOfMemory ts n v = tt

  pub each_checked : (bs : List Bool) (n : ℕ) → check_each at_ bs n kind o ≡ check_specs at_ (map plain bs) n kind o
  each_checked [] n = refl
  each_checked (b ∷ bs) n = ap (λ z. check at_ b n kind z) (each_checked bs (n + 1))
