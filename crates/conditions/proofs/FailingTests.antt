-- A path of checks with these tests, looked at from an environment: where all that it says is true, all tests pass; where a check is false, there is the first test that fails.
use Rattle.std.proofs.Common.{◌≡◌, ℕ, suc, inl, inr, Bool, true, false, List, [], ◌∷◌, true≢false, sym}
use Rattle.terms.specs.Formula.{Formula}
use Rattle.method.specs.Expressions.{Outcome, Failed}
use Rattle.conditions.specs.Paths.{Path, Done, Check, Fact, Branch, Standalone, facts}
use Rattle.conditions.specs.Ways.{AllHold, FailsIn}
use Rattle.conditions.proofs.Tests.{AllTrue, FirstFalse, Ends}
use Rattle.conditions.proofs.PathTests.{IsChecks, InOrder, Tested}
use Rattle.method.specs.LocalRuns.{FailsAt}
use Rattle.std.proofs.Common.{ap, ◌∙◌, refl}

module _ (E : Type 0) (e : E) (Holds : E → Formula → Type 0) (Is : Formula → Bool → Type 0) (holds : (x : Formula) → Is x true → Holds e x) (is_true : (x : Formula) (b : Bool) → Is x b → Holds e x → b ≡ true) where
  all_true : (xs : List Formula) (bs : List Bool) → InOrder Is xs bs → AllHold E Holds e xs → AllTrue bs
  all_true [] [] a h = tt
  all_true [] (b ∷ bs) a h = absurd a
  all_true (x ∷ xs) [] a h = absurd a
  all_true (x ∷ xs) (true ∷ bs) a h = all_true xs bs (a.1 refl) h.1
  all_true (x ∷ xs) (false ∷ bs) a h = absurd (true≢false (sym (is_true x false a.0 h.0)))

  pub tested_true : (q : Path) (bs : List Bool) → Tested Is q bs → AllHold E Holds e (facts q) → AllTrue bs
  tested_true q bs k h = all_true (facts q) bs k.all h

  first_false : (label n : ℕ) (q : Path) (bs : List Bool) → IsChecks q → InOrder Is (facts q) bs → FailsIn E Holds label n q e → FirstFalse label n bs
  first_false label n Done bs i a y = absurd y
  first_false label n (Check x q) [] i a y = absurd a
  first_false label n (Check x q) (true ∷ bs) i a (inl y) = absurd (y.1 (holds x a.0))
  first_false label n (Check x q) (true ∷ bs) i a (inr y) = first_false label (suc n) q bs i (a.1 refl) y.1
  first_false label n (Check x q) (false ∷ bs) i a (inl y) = y.0
  first_false label n (Check x q) (false ∷ bs) i a (inr y) = absurd (true≢false (sym (is_true x false a.0 y.0)))
  first_false label n (Fact x q) bs i a y = absurd i
  first_false label n (Branch c q) bs i a y = absurd i
  first_false label n (Standalone x q) bs i a y = absurd i

  pub tested_false : (label n : ℕ) (q : Path) (bs : List Bool) → Tested Is q bs → FailsIn E Holds label n q e → FirstFalse label n bs
  tested_false label n q bs k y = first_false label n q bs k.only_checks k.all y

-- what has this first false test fails there
pub ends_false : {A : Type 0} (bs : List Bool) (n label : ℕ) (a : A) (r : Outcome A) → Ends bs n a r → FirstFalse label n bs → FailsAt label r
ends_false [] n label a r x b = absurd b
ends_false (true ∷ bs) n label a r x b = ends_false bs (suc n) label a r x b
ends_false (false ∷ bs) n label a r x b = (x.0, x.1, x.2 ∙ ap (λ k. Failed k x.0 x.1) b)
