use Rattle.std.proofs.Common.{refl, List, map, arith}
use Rattle.std.specs.Prelude.{flat_map}
use Rattle.c_syntax.specs.declared.ghosts.GhostStmt.{GhostStmt}
use Rattle.c_syntax.specs.Views as view
use Rattle.typing_symbols.specs.Scopes.{variable}
use Rattle.typed_program.specs.Variables as spec
use Rattle.elab_sites.proofs.ByBodies.{ghost_body_smaller, ghost_else_smaller}
use Rattle.elab_sites.proofs.Telling.{all_put, ghosts_declare}
use Rattle.elab_sites.proofs.variables.+ghosts.Goals as goal

pub add_ghosts-requires : goal.add_ghosts-requires
add_ghosts-requires t c = (omega (arith, c.decreases, ghost_body_smaller c.args.all.now c.loop-x.x-index c.x-item.result c.loop-x-test.true c.x-item.is (map view.ghost c.ghost_body.result.now) c.ghost_body.ensures), tt)

pub add_ghosts-requires-in-loop-x : goal.add_ghosts-requires-in-loop-x
add_ghosts-requires-in-loop-x t c = (omega (arith, c.decreases, ghost_else_smaller c.args.all.now c.loop-x.x-index c.x-item.result c.loop-x-test.true c.x-item.is (map view.ghost c.ghost_else_body.result.now) c.ghost_else_body.ensures), tt)

pub loop-x-preserved : goal.loop-x-preserved
loop-x-preserved t c =
    ghosts_declare c.args.all.now c.loop-x.x-index c.x-item.result c.loop-x-test.true c.x-item.is (map view.ghost c.ghost_body.result.now) (map view.ghost c.ghost_else_body.result.now) c.ghost_body.ensures c.ghost_else_body.ensures (map variable c.loop-x.declared.items) _ _ _ _
    c.in_ok-add_ghost.ensures c.in_ok-add_ghosts.ensures c.in_ok-add_ghosts-2.ensures c.loop-x.invariant

pub returns : goal.returns
returns t c = all_put (λ (ss : List GhostStmt). flat_map spec.ghost_declared (map view.ghost ss)) c.args.all.now c.loop-x.x-index (omega arith) refl (map variable c.loop-x.declared.items) _ c.loop-x.invariant
