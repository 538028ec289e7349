-- What holds of the ends of items. Own.
use Rattle.method.specs.Expressions.{End, Misfit, Failed, Gave}

-- Q holds of what an item gives; of an item that doesn't fit, or whose check fails, nothing is said
abbrev pub OnEnd : {A : Type 0} → End A → (A → Type 0) → Type 0
OnEnd Misfit Q = Unit {0}
OnEnd (Failed n kind line) Q = Unit {0}
OnEnd (Gave a) Q = Q a
