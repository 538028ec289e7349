use Rattle.std.specs.Prelude.{◌≡◌, ◌++◌, replicate}
use Rattle.terms.specs.declared.sort.Sort.TheVariants as sort
use Rattle.quantified_formulas.proofs.quantified.add_references.Given as goal

abbrev pub decreases-loop-left : goal.decreases-loop-left
decreases-loop-left l = l.left

abbrev pub invariant-loop-left : goal.invariant-loop-left
invariant-loop-left l = l.sorts.items ++ replicate l.left sort.Ref ≡ l.fn.sorts.items ++ replicate l.count sort.Ref
