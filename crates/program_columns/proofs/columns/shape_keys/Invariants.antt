use Rattle.std.specs.Prelude.{◌≡◌, ◌++◌, drop, map}
use Rattle.term_meaning.specs.Columns.{term_sort}
use Rattle.program_columns.specs.Columns.{hole_sorts}
use Rattle.program_columns.proofs.columns.shape_keys.Given as goal

abbrev pub invariant-loop-hole : goal.invariant-loop-hole
invariant-loop-hole l = l.keys.items ++ map term_sort (drop l.hole-index l.holes) ≡ hole_sorts l.holes
