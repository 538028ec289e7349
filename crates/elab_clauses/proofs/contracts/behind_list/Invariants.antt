use Rattle.std.proofs.Common.{◌≡◌, ◌+◌, map, drop}
use Rattle.c_syntax.specs.Views as view
use Rattle.typed_program.specs.Tables.{list_formulas}
use Rattle.elab_clauses.proofs.contracts.behind_list.Given as goal

abbrev pub invariant-loop-x : goal.invariant-loop-x
invariant-loop-x l = l.next + list_formulas (map view.written (drop l.x-index l.all)) ≡ l.first + list_formulas (map view.written l.all)
