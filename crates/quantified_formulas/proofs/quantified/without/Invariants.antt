use Rattle.std.specs.Prelude.{◌≡◌, ◌++◌, drop}
use Rattle.quantified_formulas.specs.Sorts.{without}
use Rattle.quantified_formulas.proofs.quantified.without.Given as goal

abbrev pub invariant-loop-one : goal.invariant-loop-one
invariant-loop-one l = l.others.items ++ without l.number (drop l.one-index l.numbers) ≡ without l.number l.numbers
