-- What the end of an action says of it and of its choices.
use Rattle.std.proofs.Common.{◌≡◌, ℕ, Bool, true, false, refl}
use Rattle.method.specs.Expressions.{Gave, Outcome}
use Rattle.method.specs.Actions.{fitting}
use Rattle.method.specs.LocalRuns.{FailsAt}

pub fitting_gave : {A : Type 0} (b : Bool) (o : Outcome A) (a : A) → (fitting b o).end ≡ Gave a → (b ≡ true) × (o.end ≡ Gave a)
fitting_gave true o a e = (refl, e)
fitting_gave false o a e = absurd (cc)

pub fitting_failed : {A : Type 0} (label : ℕ) (b : Bool) (o : Outcome A) → FailsAt label (fitting b o) → (b ≡ true) × FailsAt label o
fitting_failed label true o r = (refl, r)
fitting_failed label false o r = absurd (let z = r.2 in cc)
