use Rattle.std.proofs.Common.{refl, ◌∙◌, List, [], map, arith}
use Rattle.c_syntax.specs.declared.ghosts.GhostStmt.{GhostStmt}
use Rattle.c_syntax.specs.Grammar.{ghosts_of}
use Rattle.c_syntax.specs.Views as view
use Rattle.elab_code.specs.Names.{texts}
use Rattle.typing_symbols.specs.Scopes.{known}
use Rattle.typed_program.specs.Sites.{ghosts_occurrences}
use Rattle.typing_statements.specs.Views.{fixed}
use Rattle.elab_sites.specs.Settings.{within}
use Rattle.elab_sites.specs.Views.{occurrence}
use Rattle.elab_sites.proofs.ByBodies.{ghost_body_smaller, ghost_else_smaller}
use Rattle.elab_sites.proofs.Telling.{room, back, ghost_grows, all_put, ghosts_told}
use Rattle.elab_sites.proofs.occurrences.+ghosts.Goals as goal

pub ghost_statements-requires : goal.ghost_statements-requires
ghost_statements-requires t c = (omega (arith, c.decreases, ghost_body_smaller c.args.all.now c.loop-x.x-index c.x-item.result c.loop-x-test.true c.x-item.is (map view.ghost c.ghost_body.result.now) c.ghost_body.ensures), tt)

pub ghost_statements-requires-in-loop-x : goal.ghost_statements-requires-in-loop-x
ghost_statements-requires-in-loop-x t c = (omega (arith, c.decreases, ghost_else_smaller c.args.all.now c.loop-x.x-index c.x-item.result c.loop-x-test.true c.x-item.is (map view.ghost c.ghost_else_body.result.now) c.ghost_else_body.ensures), tt)

pub loop-x-init : goal.loop-x-init
loop-x-init t c = record { told = refl; grown = ([], refl) }

pub loop-x-preserved : goal.loop-x-preserved
loop-x-preserved t c =
    let setting = c.args.setting.now in
    record {
      told = ghosts_told (fixed setting.surroundings) (texts setting.places.now.names.items) setting.function c.args.all.now c.loop-x.x-index c.x-item.result c.loop-x-test.true c.x-item.is (map view.ghost c.ghost_body.result.now) (map view.ghost c.ghost_else_body.result.now) c.ghost_body.ensures c.ghost_else_body.ensures
          (known c.loop-x.variables) _ _ _ c.in_ok-ghost_statements.ensures.kept c.in_ok-ghost_statements-2.ensures.kept c.in_ok-know_ghost.ensures (map occurrence c.loop-x.so_far.items) _ _ _ _ c.in_ok-ghost_statement.ensures c.in_ok-ghost_statements.ensures.occurrence c.in_ok-ghost_statements-2.ensures.occurrence c.loop-x.invariant.told;
      grown = ghost_grows (view.ghost c.x-item.result) (known c.args.variables.now) (known c.loop-x.variables) _ _ c.loop-x.invariant.grown (c.in_ok-ghost_statements-2.ensures.kept ∙ c.in_ok-ghost_statements.ensures.kept) c.in_ok-know_ghost.ensures;
    }

pub keep-requires : goal.keep-requires
keep-requires t c = room (known c.args.variables.now) (known c.loop-x.variables) c.count-count.result c.loop-x.invariant.grown c.count-count.ensures

pub returns-clause-occurrence : goal.returns-clause-occurrence
returns-clause-occurrence t c =
    let setting = c.args.setting.now in
    all_put (λ (ss : List GhostStmt). ghosts_occurrences (within setting (known c.loop-x.variables)) setting.function (ghosts_of (map view.ghost ss))) c.args.all.now c.loop-x.x-index (omega arith) refl (map occurrence c.loop-x.so_far.items) _ c.loop-x.invariant.told

pub returns-clause-kept : goal.returns-clause-kept
returns-clause-kept t c = back (known c.args.variables.now) (known c.loop-x.variables) _ c.count-count.result c.loop-x.invariant.grown c.count-count.ensures c.keep.ensures
