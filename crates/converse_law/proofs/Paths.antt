-- Checks and facts in front of a path, and an outcome behind another; and the machine's checks of annotations beside their formulas.
use Rattle.std.proofs.Common.{◌≡◌, ℕ, suc, ◌+◌, ◌==◌, ◌⊎◌, inl, inr, ⊎_elim, Bool, true, false, not, ◌&&◌, ◌||◌, if◌then◌else◌, List, [], ◌∷◌, map, length, refl, ap, ◌∙◌, sym, subst, arith, eqb-true, true≢false}
use Rattle.object_types.specs.declared.references.Ref.{Ref}
use Rattle.object_types.specs.Sets.{every}
use Rattle.method.specs.declared.program.CheckKind.{CheckKind}
use Rattle.method.specs.Expressions.{Outcome, Gave, Spot as MachineSpot, Tested, check, check_specs, after as outcome_after}
use Rattle.method.specs.LocalRuns.{FailsAt}
use Rattle.method.specs.Machine.{all_true}
use Rattle.method.proofs.Global.{both_and}
use Rattle.terms.specs.Formula.{Formula}
use Rattle.term_meaning.specs.Meaning.{Language}
use Rattle.conditions.specs.Paths.{Path, Done, Check, Fact, Branch, Standalone as Apart, Execution, facts, checks, all_facts, check_each}
use Rattle.conditions.specs.Ways.{AllHold, FailsIn}
use Rattle.conditions.proofs.Tests.{after_gave, after_failed}
use Rattle.condition_meaning.proofs.Environments.{Environment, Is, is_false, is_holds}
use Rattle.condition_meaning.proofs.FunctionScenes.{EachIs}
use Rattle.condition_meaning.proofs.Known.{Known, known_by, known_holds}

-- what is hidden behind a statement that declares nothing, or one variable
pub none_declared : (b : Bool) → (b && true) ≡ false → b ≡ false
none_declared true k = absurd (true≢false k)
none_declared false k = refl

pub other_declared : (b : Bool) (i j : ℕ) → (j ≡ i → ⊥) → (b && not ((i == j) || false)) ≡ false → b ≡ false
other_declared false i j differ k = refl
other_declared true i j differ k = absurd (by_place (i == j) refl k)
  where
    by_place : (d : Bool) → (i == j) ≡ d → not (d || false) ≡ false → ⊥
    by_place true e z = differ (sym (eqb-true i j e))
    by_place false e z = true≢false z

-- what fails first fails the whole, and so does what fails behind a value
pub fails_front : {A B : Type 0} (label : ℕ) (o : Outcome A) (g : A → Outcome B) → FailsAt label o → FailsAt label (outcome_after o g)
fails_front label o g y = (y.0, y.1, after_failed o g label y.0 y.1 y.2)

pub fails_behind : {A B : Type 0} (label : ℕ) (o : Outcome A) (g : A → Outcome B) (v : A) → o.end ≡ Gave v → FailsAt label (g v) → FailsAt label (outcome_after o g)
fails_behind label o g v is y = (y.0, y.1, after_gave o g v is ∙ y.2)

module _ (E : Type 0) (H : E → Formula → Type 0) (e : E) where
  -- what is known behind checks is known of each, and behind them; the same of facts
  pub checks_apart : {A : Type 0} (fs : List Formula) (t : Execution A) → AllHold E H e (facts (check_each fs t).path) → AllHold E H e fs × AllHold E H e (facts t.path)
  checks_apart [] t a = (tt, a)
  checks_apart (f ∷ fs) t a = let z = checks_apart fs t a.1 in ((a.0, z.0), z.1)

  pub known_apart : {A : Type 0} (fs : List Formula) (t : Execution A) → AllHold E H e (facts (all_facts fs t).path) → AllHold E H e fs × AllHold E H e (facts t.path)
  known_apart [] t a = (tt, a)
  known_apart (f ∷ fs) t a = let z = known_apart fs t a.1 in ((a.0, z.0), z.1)

  -- behind facts no number is used up
  pub fails_known : {A : Type 0} (label n : ℕ) (fs : List Formula) (t : Execution A) → FailsIn E H label n (all_facts fs t).path e → AllHold E H e fs × FailsIn E H label n t.path e
  fails_known label n [] t y = (tt, y)
  fails_known label n (f ∷ fs) t y = let z = fails_known label n fs t y.1 in ((y.0, z.0), z.1)

  pub at_number : (label n m : ℕ) (q : Path) → n ≡ m → FailsIn E H label n q e → FailsIn E H label m q e
  at_number label n m q same y = subst (λ (k : ℕ). FailsIn E H label k q e) same y

  -- a path without checks fails none
  pub none_fails : (label n : ℕ) (q : Path) → checks q ≡ 0 → FailsIn E H label n q e → ⊥
  none_fails label n Done is y = y
  none_fails label n (Check g q) is y = omega (arith, is)
  none_fails label n (Fact g q) is y = none_fails label n q is y.1
  none_fails label n (Branch b q) is (inl y) = none_fails label n b (omega (arith, is)) y
  none_fails label n (Branch b q) is (inr y) = none_fails label (n + checks b) q (omega (arith, is)) y
  none_fails label n (Apart g q) is y = omega (arith, is)

-- the machine's checks of annotations that all hold
pub specs_pass : {A : Type 0} (at_ : MachineSpot) (kind : CheckKind) (ts : List Tested) (n : ℕ) (o : Outcome A) → every (λ b. b) (map (λ (t : Tested). t.holds) ts) ≡ true → (check_specs at_ ts n kind o).end ≡ o.end
specs_pass at_ kind [] n o h = refl
specs_pass at_ kind (t ∷ ts) n o h = by_test t.holds h (λ k. specs_pass at_ kind ts (n + 1) o k)
  where
    by_test : (b : Bool) → (b && every (λ b. b) (map (λ (t : Tested). t.holds) ts)) ≡ true → (every (λ b. b) (map (λ (t : Tested). t.holds) ts) ≡ true → (check_specs at_ ts (n + 1) kind o).end ≡ o.end) → (check at_ b n kind (check_specs at_ ts (n + 1) kind o)).end ≡ o.end
    by_test true h more = more h
    by_test false h more = absurd (true≢false (sym h))

module _ (l : Language) (T : Ref) (e : Environment l T) where
  abbrev pub Knows : Unit {0} → Formula → Type 0
  Knows u g = Known l T e g

  -- where each formula is known, each test holds
  pub each_holds : (fs : List Formula) (bs : List Bool) → EachIs l e.env fs bs → AllHold (Unit {0}) Knows tt fs → every (λ b. b) bs ≡ true
  each_holds [] [] i k = refl
  each_holds [] (b ∷ bs) i k = absurd i
  each_holds (f ∷ fs) [] i k = absurd i
  each_holds (f ∷ fs) (b ∷ bs) i k = both_and b (every (λ b. b) bs) (is_holds l T e f b i.0 (known_holds l T e f k.0)) (each_holds fs bs i.1 k.1)

  pub all_hold : (fs : List Formula) (bs : List Bool) → EachIs l e.env fs bs → AllHold (Unit {0}) Knows tt fs → all_true bs ≡ true
  all_hold [] [] i k = refl
  all_hold [] (b ∷ bs) i k = absurd i
  all_hold (f ∷ fs) [] i k = absurd i
  all_hold (f ∷ fs) (b ∷ bs) i k = ap (λ c. if c then all_true bs else false) (is_holds l T e f b i.0 (known_holds l T e f k.0)) ∙ all_hold fs bs i.1 k.1

  -- where a path of annotations' checks fails, the machine's checks fail there, or they all hold and it fails behind them
  pub specs_apart : {A B : Type 0} (label : ℕ) (at_ : MachineSpot) (kind : CheckKind) (fs : List Formula) (ts : List Tested) (n : ℕ) (o : Outcome A) (rest : Execution B) → EachIs l e.env fs (map (λ (t : Tested). t.holds) ts) → FailsIn (Unit {0}) Knows label n (check_each fs rest).path tt
      → FailsAt label (check_specs at_ ts n kind o) ⊎ ((every (λ b. b) (map (λ (t : Tested). t.holds) ts) ≡ true) × FailsIn (Unit {0}) Knows label (n + length fs) rest.path tt)
  specs_apart label at_ kind [] [] n o rest i y = inr (refl, at_number (Unit {0}) Knows tt label n (n + 0) rest.path (omega arith) y)
  specs_apart label at_ kind [] (t ∷ ts) n o rest i y = absurd i
  specs_apart label at_ kind (f ∷ fs) [] n o rest i y = absurd i
  specs_apart label at_ kind (f ∷ fs) (t ∷ ts) n o rest i y =
      by_test t.holds i.0 y (λ z. specs_apart label at_ kind fs ts (n + 1) o rest i.1 (at_number (Unit {0}) Knows tt label (suc n) (n + 1) (check_each fs rest).path (omega arith) z))
    where
      by_test : (b : Bool) → Is l T e f b → ((n ≡ label) × ¬ Knows tt f) ⊎ (Knows tt f × FailsIn (Unit {0}) Knows label (suc n) (check_each fs rest).path tt)
          → (FailsIn (Unit {0}) Knows label (suc n) (check_each fs rest).path tt → FailsAt label (check_specs at_ ts (n + 1) kind o) ⊎ ((every (λ b. b) (map (λ (t : Tested). t.holds) ts) ≡ true) × FailsIn (Unit {0}) Knows label (n + 1 + length fs) rest.path tt))
          → FailsAt label (check at_ b n kind (check_specs at_ ts (n + 1) kind o)) ⊎ (((b && every (λ b. b) (map (λ (t : Tested). t.holds) ts)) ≡ true) × FailsIn (Unit {0}) Knows label (n + suc (length fs)) rest.path tt)
      by_test true i (inl z) more = absurd (z.1 (known_by l T e f true i refl))
      by_test true i (inr z) more = ⊎_elim (λ w. inl w) (λ w. inr (w.0, at_number (Unit {0}) Knows tt label (n + 1 + length fs) (n + suc (length fs)) rest.path (omega arith) w.1)) (more z.1)
      by_test false i (inl z) more = inl (kind, at_.line, ap (λ m. (check at_ false m kind (check_specs at_ ts (n + 1) kind o)).end) z.0)
      by_test false i (inr z) more = absurd (is_false l T e f i (known_holds l T e f z.0))
