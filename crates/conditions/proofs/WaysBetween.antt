-- Two readings of formulas: what holds by the one holds by the other.
use Rattle.std.proofs.Common.{ℕ, suc, ◌+◌, inl, inr, List, [], ◌∷◌}
use Rattle.terms.specs.Formula.{Formula}
use Rattle.conditions.specs.Paths.{Path, Done, Check, Fact, Branch, Standalone, checks}
use Rattle.conditions.specs.Ways.{AllHold, FailsIn}

module _ (E : Type 0) (e : E) (Holds : E → Formula → Type 0) (D : Type 0) (d : D) (Holds' : D → Formula → Type 0) (each : (f : Formula) → Holds e f → Holds' d f) where
  pub all_between : (fs : List Formula) → AllHold E Holds e fs → AllHold D Holds' d fs
  all_between [] a = tt
  all_between (f ∷ fs) a = (each f a.0, all_between fs a.1)

  pub fails_between : ((f : Formula) → ¬ Holds e f → ¬ Holds' d f) → (label n : ℕ) (q : Path) → FailsIn E Holds label n q e → FailsIn D Holds' label n q d
  fails_between none label n Done y = y
  fails_between none label n (Check f q) (inl y) = inl (y.0, none f y.1)
  fails_between none label n (Check f q) (inr y) = inr (each f y.0, fails_between none label (suc n) q y.1)
  fails_between none label n (Fact f q) y = (each f y.0, fails_between none label n q y.1)
  fails_between none label n (Branch b q) (inl y) = inl (fails_between none label n b y)
  fails_between none label n (Branch b q) (inr y) = inr (fails_between none label (n + checks b) q y)
  fails_between none label n (Standalone f q) y = fails_between none label (suc n) q y
