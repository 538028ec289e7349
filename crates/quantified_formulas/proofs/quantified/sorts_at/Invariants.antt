use Rattle.std.specs.Prelude.{◌≡◌, ◌++◌, drop, map}
use Rattle.quantified_formulas.specs.Sorts.{sort_at}
use Rattle.quantified_formulas.proofs.quantified.sorts_at.Given as goal

abbrev pub invariant-loop-place : goal.invariant-loop-place
invariant-loop-place l = l.all.items ++ map (sort_at l.sorts) (drop l.place-index l.places) ≡ map (sort_at l.sorts) l.places
