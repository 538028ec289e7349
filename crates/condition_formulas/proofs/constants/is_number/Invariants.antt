use Rattle.std.proofs.Common.{◌≡◌, drop}
use Rattle.conditions.specs.Formulas.{is_number}
use Rattle.condition_formulas.proofs.constants.is_number.Given as goal

abbrev pub invariant-loop-number : goal.invariant-loop-number
invariant-loop-number l = is_number l.n (drop l.number-index l.numbers) ≡ is_number l.n l.numbers
