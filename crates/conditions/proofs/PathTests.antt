-- Paths of checks alone, whose formulas have these truth values.
use Rattle.std.proofs.Common.{◌≡◌, ℕ, suc, inl, inr, Bool, true, false, not, ◌||◌, List, [], ◌∷◌, ◌++◌, map, refl}
use Rattle.terms.specs.Formula.{Formula}
use Rattle.conditions.specs.Formulas.{imp}
use Rattle.conditions.specs.Paths.{Path, Done, Check, Fact, Branch, Standalone, Execution, sequence, facts, guarded, check_each}
use Rattle.conditions.specs.Ways.{AllHold, FailsIn}
use Rattle.conditions.proofs.Tests.{AllTrue, FirstFalse}

-- a path of checks alone
abbrev pub IsChecks : Path → Type 0
IsChecks Done = Unit {0}
IsChecks (Check f q) = IsChecks q
IsChecks (Fact f q) = ⊥
IsChecks (Branch b q) = ⊥
IsChecks (Standalone f q) = ⊥

module _ (Is : Formula → Bool → Type 0) where
  -- formulas, each with its truth value
  abbrev pub AllAre : List Formula → List Bool → Type 0
  AllAre [] [] = Unit {0}
  AllAre [] (b ∷ bs) = ⊥
  AllAre (x ∷ xs) [] = ⊥
  AllAre (x ∷ xs) (b ∷ bs) = Is x b × AllAre xs bs

  -- the path is of checks with these tests
  pub record HasTests (q : Path) (bs : List Bool) : Type 0 where
    pub only_checks : IsChecks q
    pub all : AllAre (facts q) bs

  pub has_tests_done : HasTests Done []
  has_tests_done = record { only_checks = tt; all = tt }

  pub has_tests_check : (x : Formula) (b : Bool) (q : Path) (bs : List Bool) → Is x b → HasTests q bs → HasTests (Check x q) (b ∷ bs)
  has_tests_check x b q bs h k = record { only_checks = k.only_checks; all = (h, k.all) }

  joined_checks : (q r : Path) → IsChecks q → IsChecks r → IsChecks (sequence q r)
  joined_checks Done r i j = j
  joined_checks (Check x q) r i j = joined_checks q r i j
  joined_checks (Fact x q) r i j = absurd i
  joined_checks (Branch b q) r i j = absurd i
  joined_checks (Standalone x q) r i j = absurd i

  joined_are : (q r : Path) (bs cs : List Bool) → IsChecks q → AllAre (facts q) bs → AllAre (facts r) cs → AllAre (facts (sequence q r)) (bs ++ cs)
  joined_are Done r [] cs i a b = b
  joined_are Done r (x ∷ xs) cs i a b = absurd a
  joined_are (Check x q) r [] cs i a b = absurd a
  joined_are (Check x q) r (t ∷ ts) cs i a b = (a.0, joined_are q r ts cs i a.1 b)
  joined_are (Fact x q) r bs cs i a b = absurd i
  joined_are (Branch c q) r bs cs i a b = absurd i
  joined_are (Standalone x q) r bs cs i a b = absurd i

  pub has_tests_sequence : (q r : Path) (bs cs : List Bool) → HasTests q bs → HasTests r cs → HasTests (sequence q r) (bs ++ cs)
  has_tests_sequence q r bs cs h k = record { only_checks = joined_checks q r h.only_checks k.only_checks; all = joined_are q r bs cs h.only_checks h.all k.all }

  each_checks : {A : Type 0} (fs : List Formula) (t : Execution A) → IsChecks t.path → IsChecks (check_each fs t).path
  each_checks [] t i = i
  each_checks (f ∷ fs) t i = each_checks fs t i

  each_are : {A : Type 0} (fs : List Formula) (bs : List Bool) (t : Execution A) (cs : List Bool) → AllAre fs bs → AllAre (facts t.path) cs → AllAre (facts (check_each fs t).path) (bs ++ cs)
  each_are [] [] t cs a b = b
  each_are [] (x ∷ xs) t cs a b = absurd a
  each_are (f ∷ fs) [] t cs a b = absurd a
  each_are (f ∷ fs) (x ∷ xs) t cs a b = (a.0, each_are fs xs t cs a.1 b)

  -- a check for each of a list
  pub has_tests_each : {A : Type 0} (fs : List Formula) (bs : List Bool) (t : Execution A) (cs : List Bool) → AllAre fs bs → HasTests t.path cs → HasTests (check_each fs t).path (bs ++ cs)
  has_tests_each fs bs t cs a h = record { only_checks = each_checks fs t h.only_checks; all = each_are fs bs t cs a h.all }

  pub are_both : (fs gs : List Formula) (bs cs : List Bool) → AllAre fs bs → AllAre gs cs → AllAre (fs ++ gs) (bs ++ cs)
  are_both [] gs [] cs a b = b
  are_both [] gs (x ∷ xs) cs a b = absurd a
  are_both (f ∷ fs) gs [] cs a b = absurd a
  are_both (f ∷ fs) gs (x ∷ xs) cs a b = (a.0, are_both fs gs xs cs a.1 b)

  -- In order: each formula has its truth value where those before it are true.
  abbrev pub InOrder : List Formula → List Bool → Type 0
  InOrder [] [] = Unit {0}
  InOrder [] (b ∷ bs) = ⊥
  InOrder (x ∷ xs) [] = ⊥
  InOrder (x ∷ xs) (b ∷ bs) = Is x b × (b ≡ true → InOrder xs bs)

  pub record Tested (q : Path) (bs : List Bool) : Type 0 where
    pub only_checks : IsChecks q
    pub all : InOrder (facts q) bs

  in_order : (xs : List Formula) (bs : List Bool) → AllAre xs bs → InOrder xs bs
  in_order [] [] a = tt
  in_order [] (b ∷ bs) a = absurd a
  in_order (x ∷ xs) [] a = absurd a
  in_order (x ∷ xs) (b ∷ bs) a = (a.0, λ h. in_order xs bs a.1)

  pub tested_has_tests : (q : Path) (bs : List Bool) → HasTests q bs → Tested q bs
  tested_has_tests q bs h = record { only_checks = h.only_checks; all = in_order (facts q) bs h.all }

  pub tested_done : Tested Done []
  tested_done = record { only_checks = tt; all = tt }

  -- what comes behind a check is looked at where the check passes
  pub tested_check : (x : Formula) (b : Bool) (q : Path) (bs : List Bool) → IsChecks q → Is x b → (b ≡ true → Tested q bs) → Tested (Check x q) (b ∷ bs)
  tested_check x b q bs i h k = record { only_checks = i; all = (h, λ c. (k c).all) }

  joined_order : (q r : Path) (bs cs : List Bool) → IsChecks q → InOrder (facts q) bs → (AllTrue bs → InOrder (facts r) cs) → InOrder (facts (sequence q r)) (bs ++ cs)
  joined_order Done r [] cs i a b = b tt
  joined_order Done r (x ∷ xs) cs i a b = absurd a
  joined_order (Check x q) r [] cs i a b = absurd a
  joined_order (Check x q) r (true ∷ ts) cs i a b = (a.0, λ h. joined_order q r ts cs i (a.1 h) b)
  joined_order (Check x q) r (false ∷ ts) cs i a b = (a.0, λ h. absurd (cc))
  joined_order (Fact x q) r bs cs i a b = absurd i
  joined_order (Branch c q) r bs cs i a b = absurd i
  joined_order (Standalone x q) r bs cs i a b = absurd i

  pub tested_joined : (q r : Path) (bs cs : List Bool) → IsChecks r → Tested q bs → (AllTrue bs → Tested r cs) → Tested (sequence q r) (bs ++ cs)
  tested_joined q r bs cs i h k = record { only_checks = joined_checks q r h.only_checks i; all = joined_order q r bs cs h.only_checks h.all (λ a. (k a).all) }

  module _ (is_imp : (x y : Formula) (a b : Bool) → Is x a → Is y b → Is (imp x y) (not a || b)) where
    guarded_checks : (g : Formula) (q : Path) → IsChecks q → IsChecks (guarded g q)
    guarded_checks g Done i = tt
    guarded_checks g (Check x q) i = guarded_checks g q i
    guarded_checks g (Fact x q) i = absurd i
    guarded_checks g (Branch b q) i = absurd i
    guarded_checks g (Standalone x q) i = absurd i

    guarded_are : (g : Formula) (b : Bool) (q : Path) (bs : List Bool) → Is g b → IsChecks q → AllAre (facts q) bs → AllAre (facts (guarded g q)) (map (λ t. not b || t) bs)
    guarded_are g b Done [] h i a = tt
    guarded_are g b Done (x ∷ xs) h i a = absurd a
    guarded_are g b (Check x q) [] h i a = absurd a
    guarded_are g b (Check x q) (t ∷ ts) h i a = (is_imp g x b t h a.0, guarded_are g b q ts h i a.1)
    guarded_are g b (Fact x q) bs h i a = absurd i
    guarded_are g b (Branch c q) bs h i a = absurd i
    guarded_are g b (Standalone x q) bs h i a = absurd i

    pub has_tests_guarded : (g : Formula) (b : Bool) (q : Path) (bs : List Bool) → Is g b → HasTests q bs → HasTests (guarded g q) (map (λ t. not b || t) bs)
    has_tests_guarded g b q bs h k = record { only_checks = guarded_checks g q k.only_checks; all = guarded_are g b q bs h k.only_checks k.all }

-- In one environment.
module _ (E : Type 0) (e : E) (Holds : E → Formula → Type 0) (Is : Formula → Bool → Type 0) (holds : (x : Formula) → Is x true → Holds e x) (fails : (x : Formula) → Is x false → ¬ Holds e x) where
  all_hold : (xs : List Formula) (bs : List Bool) → InOrder Is xs bs → AllTrue bs → AllHold E Holds e xs
  all_hold [] [] a b = tt
  all_hold [] (c ∷ cs) a b = absurd a
  all_hold (x ∷ xs) [] a b = absurd a
  all_hold (x ∷ xs) (true ∷ cs) a b = (holds x a.0, all_hold xs cs (a.1 refl) b)
  all_hold (x ∷ xs) (false ∷ cs) a b = absurd b

  -- where all tests pass, what the path says is true
  pub tested_holds : (q : Path) (bs : List Bool) → Tested Is q bs → AllTrue bs → AllHold E Holds e (facts q)
  tested_holds q bs h b = all_hold (facts q) bs h.all b

  fails_at : (label n : ℕ) (q : Path) (bs : List Bool) → IsChecks q → InOrder Is (facts q) bs → FirstFalse label n bs → FailsIn E Holds label n q e
  fails_at label n Done [] i a b = absurd b
  fails_at label n Done (c ∷ cs) i a b = absurd a
  fails_at label n (Check x q) [] i a b = absurd a
  fails_at label n (Check x q) (true ∷ cs) i a b = inr (holds x a.0, fails_at label (suc n) q cs i (a.1 refl) b)
  fails_at label n (Check x q) (false ∷ cs) i a b = inl (b, fails x a.0)
  fails_at label n (Fact x q) bs i a b = absurd i
  fails_at label n (Branch c q) bs i a b = absurd i
  fails_at label n (Standalone x q) bs i a b = absurd i

  -- at the first false test the check is false
  pub tested_fails : (label n : ℕ) (q : Path) (bs : List Bool) → Tested Is q bs → FirstFalse label n bs → FailsIn E Holds label n q e
  tested_fails label n q bs h b = fails_at label n q bs h.only_checks h.all b
