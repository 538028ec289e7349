use Rattle.std.specs.Prelude.{◌≡◌, ◌++◌, drop, map}
use Rattle.quantified_formulas.specs.Sorts.{value_sort}
use Rattle.quantified_formulas.proofs.quantified.add_value_sorts.Given as goal

abbrev pub invariant-loop-value : goal.invariant-loop-value
invariant-loop-value l = l.sorts.items ++ map value_sort (drop l.value-index l.values) ≡ l.fn.sorts.items ++ map value_sort l.values
