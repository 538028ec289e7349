-- What the conditions of a path say of a way along it. Own. An environment gives each constant a value; in one environment the facts on a way are true or not, and the checks hold or fail.
-- Environments, and the truth of a formula in one, are given here: they come with the meaning of terms.
use Rattle.std.specs.Prelude.{◌≡◌, ℕ, suc, ◌+◌, ◌⊎◌, Bool, ℤ, List, [], ◌∷◌}
use Rattle.object_types.specs.declared.references.Ref.{Ref}
use Rattle.object_types.specs.declared.values.Value.{Value}
use Rattle.object_types.specs.declared.values.Value.TheVariants.{Int, Ref as Refers}
use Rattle.object_types.specs.Values.{says}
use Rattle.terms.specs.Formula.{Formula}
use Rattle.conditions.specs.Symbolic.{Symbolic, Truth, Number, Reference}
use Rattle.conditions.specs.Paths.{Path, Done, Check, Fact, Branch, Standalone, checks}

module _ (E : Type 0) (Holds : E → Formula → Type 0) where
  -- all of these are true
  abbrev pub AllHold : E → List Formula → Type 0
  AllHold e [] = Unit {0}
  AllHold e (f ∷ fs) = Holds e f × AllHold e fs

  -- one comes to the check with this number, and it is false there; the path's first check has number n
  abbrev pub FailsIn : ℕ → ℕ → Path → E → Type 0
  FailsIn label n Done e = ⊥
  FailsIn label n (Check f q) e = ((n ≡ label) × ¬ Holds e f) ⊎ (Holds e f × FailsIn label (suc n) q e)
  FailsIn label n (Fact f q) e = Holds e f × FailsIn label n q e
  FailsIn label n (Branch b q) e = FailsIn label n b e ⊎ FailsIn label (n + checks b) q e
  FailsIn label n (Standalone f q) e = FailsIn label (suc n) q e

  -- the condition of the check with this number, the first having number n, is true in every environment; and it is false in this one
  abbrev pub IsValidAt : ℕ → ℕ → List Formula → Type 0
  IsValidAt label n [] = Unit {0}
  IsValidAt label n (f ∷ fs) = ((n ≡ label) → (e : E) → Holds e f) × IsValidAt label (suc n) fs

  abbrev pub IsFalseAt : ℕ → ℕ → List Formula → E → Type 0
  IsFalseAt label n [] e = ⊥
  IsFalseAt label n (f ∷ fs) e = ((n ≡ label) × ¬ Holds e f) ⊎ IsFalseAt label (suc n) fs e

-- what an expression came to is the value, by the truth of formulas and the values of terms
module _ (Is : Formula → Bool → Type 0) (Has : Formula → Value → Type 0) where
  abbrev pub StandsFor : Symbolic → Value → Type 0
  StandsFor (Truth x) a = (b : Bool) × Is x b × (a ≡ says b)
  StandsFor (Number x) a = (z : ℤ) × Has x (Int z) × (a ≡ Int z)
  StandsFor (Reference x) a = (r : Ref) × Has x (Refers r) × (a ≡ Refers r)

-- a path without checks that stand alone
abbrev pub IsPlain : Path → Type 0
IsPlain Done = Unit {0}
IsPlain (Check f q) = IsPlain q
IsPlain (Fact f q) = IsPlain q
IsPlain (Branch b q) = IsPlain b × IsPlain q
IsPlain (Standalone f q) = ⊥
