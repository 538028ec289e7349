use Rattle.std.proofs.Common.{◌≡◌, ◌++◌, List, drop, map}
use Rattle.std.specs.Prelude.{flat_map}
use Rattle.c_syntax.specs.declared.ghosts.GhostStmt.{GhostStmt}
use Rattle.c_syntax.specs.Views as view
use Rattle.typing_symbols.specs.Scopes.{variable}
use Rattle.typed_program.specs.Variables as spec
use Rattle.elab_sites.proofs.ByBodies.{ghost_total}
use Rattle.elab_sites.proofs.variables.+ghosts.Given as goal

abbrev pub decreases-add_ghosts : goal.decreases-add_ghosts
decreases-add_ghosts l = ghost_total (map view.ghost l.all.now)

abbrev pub invariant-loop-x : goal.invariant-loop-x
invariant-loop-x l =
    let left = λ (ss : List GhostStmt). flat_map spec.ghost_declared (map view.ghost ss) in
    map variable l.declared.items ++ left (drop l.x-index l.all) ≡ map variable l.fn.declared.items ++ left l.all
