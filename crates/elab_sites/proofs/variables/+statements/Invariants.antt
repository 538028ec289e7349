use Rattle.std.proofs.Common.{◌≡◌, ◌++◌, List, drop, map}
use Rattle.std.specs.Prelude.{flat_map}
use Rattle.c_syntax.specs.declared.statements.Stmt.{Stmt}
use Rattle.c_syntax.specs.Views as view
use Rattle.typing_symbols.specs.Scopes.{variable}
use Rattle.typed_program.specs.Variables as spec
use Rattle.elab_sites.proofs.ByBodies.{total}
use Rattle.elab_sites.proofs.variables.+statements.Given as goal

abbrev pub decreases-add_statements : goal.decreases-add_statements
decreases-add_statements l = total (map view.stm l.all.now)

abbrev pub invariant-loop-x : goal.invariant-loop-x
invariant-loop-x l =
    let left = λ (ss : List Stmt). flat_map spec.declared (map view.stm ss) in
    map variable l.declared.items ++ left (drop l.x-index l.all) ≡ map variable l.fn.declared.items ++ left l.all
