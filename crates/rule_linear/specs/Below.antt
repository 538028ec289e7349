-- The numbers that a shape names.
use Rattle.std.specs.Prelude.{ℕ, ◌<◌}
use Rattle.rule_linear.specs.declared.form.Shape.{Shape}
use Rattle.rule_linear.specs.declared.form.Shape.TheVariants.{Number, Plus, Minus, Times, Alone}

-- the parts of a shape stand below the number
abbrev pub IsBelow : ℕ → Shape → Type 0
IsBelow t (Plus a b) = (a < t) × (b < t)
IsBelow t (Minus a b) = (a < t) × (b < t)
IsBelow t (Times n a) = a < t
IsBelow t (Number n) = Unit {0}
IsBelow t Alone = Unit {0}
