-- A list of checks of the machine beside its formulas: a run comes behind it where each formula is true, and fails it at the first that is false.
use Rattle.std.proofs.Common.{◌≡◌, ℕ, suc, ◌+◌, inl, inr, Bool, true, false, ◌&&◌, List, [], ◌∷◌, map, length, refl, ap, sym, subst, arith, true≢false}
use Rattle.object_types.specs.Sets.{every}
use Rattle.method.specs.declared.program.CheckKind.{CheckKind}
use Rattle.method.specs.Expressions.{Outcome, End, Misfit, Failed, Gave, goes_on, after, Spot, check, Tested, check_specs}
use Rattle.method.specs.LocalRuns.{FailsAt}
use Rattle.terms.specs.Formula.{Formula}
use Rattle.conditions.specs.Paths.{Path, Execution, facts, check_each, all_facts}
use Rattle.conditions.specs.Ways.{AllHold, FailsIn}
use Rattle.method.specs.Machine.{all_true}

-- what is given behind something was given there, and then
pub gave_both : {A B : Type 0} (o : Outcome A) (g : A → Outcome B) (w : B) → (after o g).end ≡ Gave w → (v : A) × (o.end ≡ Gave v) × ((g v).end ≡ Gave w)
gave_both {A} {B} o g w r = by_end o.end refl r
  where
    by_end : (d : End A) → o.end ≡ d → (goes_on o.overflow d g).end ≡ Gave w → (v : A) × (o.end ≡ Gave v) × ((g v).end ≡ Gave w)
    by_end Misfit is y = absurd (cc)
    by_end (Failed n kind line) is y = absurd (cc)
    by_end (Gave v) is y = (v, is, y)

pub all_every : (bs : List Bool) → all_true bs ≡ true → every (λ b. b) bs ≡ true
all_every [] h = refl
all_every (true ∷ bs) h = all_every bs h
all_every (false ∷ bs) h = absurd (true≢false (sym h))

module _ (E : Type 0) (Holds : E → Formula → Type 0) where
  pub at_number : (label n m : ℕ) (q : Path) (e : E) → n ≡ m → FailsIn E Holds label n q e → FailsIn E Holds label m q e
  at_number label n m q e same y = subst (λ (k : ℕ). FailsIn E Holds label k q e) same y

  -- a check that fails behind facts that hold, and behind checks that hold
  pub fails_known : (label n : ℕ) {A : Type 0} (fs : List Formula) (t : Execution A) (e : E) → AllHold E Holds e fs → FailsIn E Holds label n t.path e → FailsIn E Holds label n (all_facts fs t).path e
  fails_known label n [] t e all y = y
  fails_known label n (f ∷ fs) t e all y = (all.0, fails_known label n fs t e all.1 y)

  pub fails_passed : (label n : ℕ) {A : Type 0} (fs : List Formula) (t : Execution A) (e : E) → AllHold E Holds e fs → FailsIn E Holds label (n + length fs) t.path e → FailsIn E Holds label n (check_each fs t).path e
  fails_passed label n [] t e all y = at_number label (n + 0) n t.path e (omega arith) y
  fails_passed label n (f ∷ fs) t e all y = inr (all.0, fails_passed label (suc n) fs t e all.1 (at_number label (n + suc (length fs)) (suc n + length fs) t.path e (omega arith) y))

module _ (E : Type 0) (Holds : E → Formula → Type 0) (Is : E → Formula → Bool → Type 0)
    (holds_is : (e : E) (g : Formula) → Is e g true → Holds e g)
    (is_false : (e : E) (g : Formula) → Is e g false → ¬ Holds e g)
  where
    -- each formula has the truth value at its place
    abbrev pub AllIs : E → List Formula → List Bool → Type 0
    AllIs e [] [] = Unit {0}
    AllIs e [] (b ∷ bs) = ⊥
    AllIs e (f ∷ fs) [] = ⊥
    AllIs e (f ∷ fs) (b ∷ bs) = Is e f b × AllIs e fs bs

    -- formulas and tests of the same things
    pub held_each : {X : Type 0} (g : X → Formula) (t : X → Bool) (e : E) (xs : List X) → AllIs e (map g xs) (map t xs) → every t xs ≡ true → AllHold E Holds e (map g xs)
    held_each g t e [] is all = tt
    held_each g t e (x ∷ xs) is all = by_test (t x) is.0 all (λ k. held_each g t e xs is.1 k)
      where
        by_test : (b : Bool) → Is e (g x) b → b && every t xs ≡ true → (every t xs ≡ true → AllHold E Holds e (map g xs)) → AllHold E Holds e (map g (x ∷ xs))
        by_test true i k more = (holds_is e (g x) i, more k)
        by_test false i k more = absurd (true≢false (sym k))

    pub held_all : (e : E) (fs : List Formula) (bs : List Bool) → AllIs e fs bs → every (λ b. b) bs ≡ true → AllHold E Holds e fs
    held_all e [] [] is all = tt
    held_all e [] (b ∷ bs) is all = absurd is
    held_all e (f ∷ fs) [] is all = absurd is
    held_all e (f ∷ fs) (true ∷ bs) is all = (holds_is e f is.0, held_all e fs bs is.1 all)
    held_all e (f ∷ fs) (false ∷ bs) is all = absurd (true≢false (sym all))

    -- The same of a path of checks.

    pub facts_each : {A : Type 0} (e : E) (fs : List Formula) (t : Execution A) → AllHold E Holds e fs → AllHold E Holds e (facts t.path) → AllHold E Holds e (facts (check_each fs t).path)
    facts_each e [] t a k = k
    facts_each e (f ∷ fs) t a k = (a.0, facts_each e fs t a.1 k)

    pub facts_known : {A : Type 0} (e : E) (fs : List Formula) (t : Execution A) → AllHold E Holds e fs → AllHold E Holds e (facts t.path) → AllHold E Holds e (facts (all_facts fs t).path)
    facts_known e [] t a k = k
    facts_known e (f ∷ fs) t a k = (a.0, facts_known e fs t a.1 k)

    module _ (label : ℕ) where
      -- a failing check of specs is at the first false formula, or behind them all
      pub specs_fail : {A B : Type 0} (at_ : Spot) (kind : CheckKind) (e : E) (fs : List Formula) (ts : List Tested) (n : ℕ) (o : Outcome A) (rest : Execution B) → AllIs e fs (map (λ t. t.holds) ts) → FailsAt label (check_specs at_ ts n kind o)
          → (FailsAt label o → FailsIn E Holds label (n + length fs) rest.path e) → FailsIn E Holds label n (check_each fs rest).path e
      specs_fail at_ kind e [] [] n o rest is y behind = at_number E Holds label (n + 0) n rest.path e (omega arith) (behind y)
      specs_fail at_ kind e [] (t ∷ ts) n o rest is y behind = absurd is
      specs_fail at_ kind e (f ∷ fs) [] n o rest is y behind = absurd is
      specs_fail at_ kind e (f ∷ fs) (t ∷ ts) n o rest is y behind =
          by_test t.holds is.0 y (λ z. specs_fail at_ kind e fs ts (n + 1) o rest is.1 z (λ w. at_number E Holds label (n + suc (length fs)) (n + 1 + length fs) rest.path e (omega arith) (behind w)))
        where
          number : {A : Type 0} → End A → ℕ
          number Misfit = 0
          number (Failed m kind line) = m
          number (Gave a) = 0

          by_test : (b : Bool) → Is e f b → FailsAt label (check at_ b n kind (check_specs at_ ts (n + 1) kind o)) → (FailsAt label (check_specs at_ ts (n + 1) kind o) → FailsIn E Holds label (n + 1) (check_each fs rest).path e) → FailsIn E Holds label n (check_each (f ∷ fs) rest).path e
          by_test true i z more = inr (holds_is e f i, at_number E Holds label (n + 1) (suc n) (check_each fs rest).path e (omega arith) (more z))
          by_test false i z more = inl (ap number z.2, is_false e f i)

    -- checks of specs that were passed
    pub specs_gave : {A : Type 0} (at_ : Spot) (kind : CheckKind) (ts : List Tested) (n : ℕ) (o : Outcome A) (v : A) → (check_specs at_ ts n kind o).end ≡ Gave v → (every (λ b. b) (map (λ (t : Tested). t.holds) ts) ≡ true) × (o.end ≡ Gave v)
    specs_gave at_ kind [] n o v y = (refl, y)
    specs_gave at_ kind (t ∷ ts) n o v y = by_test t.holds y (λ z. specs_gave at_ kind ts (n + 1) o v z)
      where
        by_test : (b : Bool) → (check at_ b n kind (check_specs at_ ts (n + 1) kind o)).end ≡ Gave v → ((check_specs at_ ts (n + 1) kind o).end ≡ Gave v → (every (λ b. b) (map (λ (t : Tested). t.holds) ts) ≡ true) × (o.end ≡ Gave v)) → (b && every (λ b. b) (map (λ (t : Tested). t.holds) ts) ≡ true) × (o.end ≡ Gave v)
        by_test true z more = more z
        by_test false z more = absurd (cc)
