use Rattle.std.proofs.Common.{◌≡◌, ◌+◌, map, drop}
use Rattle.c_syntax.specs.Views as view
use Rattle.typed_program.specs.Tables.{contract_formulas}
use Rattle.elab_clauses.proofs.contracts.behind_contract.Given as goal

abbrev pub invariant-loop-x : goal.invariant-loop-x
invariant-loop-x l = l.next + contract_formulas (map view.clause (drop l.x-index l.all)) ≡ l.first + contract_formulas (map view.clause l.all)
