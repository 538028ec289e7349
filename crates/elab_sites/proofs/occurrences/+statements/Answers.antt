use Rattle.std.proofs.Common.{refl, ◌∙◌, List, [], map, arith}
use Rattle.c_syntax.specs.declared.statements.Stmt.{Stmt}
use Rattle.c_syntax.specs.Grammar.{stms_of}
use Rattle.c_syntax.specs.Views as view
use Rattle.elab_code.specs.Names.{texts}
use Rattle.typing_symbols.specs.Scopes.{known}
use Rattle.typed_program.specs.Sites.{all_occurrences}
use Rattle.typing_statements.specs.Views.{fixed}
use Rattle.elab_sites.specs.Settings.{within}
use Rattle.elab_sites.specs.Views.{occurrence}
use Rattle.elab_sites.proofs.ByBodies.{body_smaller, else_smaller}
use Rattle.elab_sites.proofs.Telling.{room, back, grows, all_put, statements_told}
use Rattle.elab_sites.proofs.occurrences.+statements.Goals as goal

pub statements-requires : goal.statements-requires
statements-requires t c = (omega (arith, c.decreases, body_smaller c.args.all.now c.loop-x.x-index c.x-item.result c.loop-x-test.true c.x-item.is (map view.stm c.body.result.now) c.body.ensures), tt)

pub statements-requires-in-loop-x : goal.statements-requires-in-loop-x
statements-requires-in-loop-x t c = (omega (arith, c.decreases, else_smaller c.args.all.now c.loop-x.x-index c.x-item.result c.loop-x-test.true c.x-item.is (map view.stm c.else_body.result.now) c.else_body.ensures), tt)

pub loop-x-init : goal.loop-x-init
loop-x-init t c = record { told = refl; grown = ([], refl) }

pub loop-x-preserved : goal.loop-x-preserved
loop-x-preserved t c =
    let setting = c.args.setting.now in
    record {
      told = statements_told (fixed setting.surroundings) (texts setting.places.now.names.items) setting.function c.args.all.now c.loop-x.x-index c.x-item.result c.loop-x-test.true c.x-item.is (map view.stm c.body.result.now) (map view.stm c.else_body.result.now) c.body.ensures c.else_body.ensures
          (known c.loop-x.variables) _ _ _ _ c.in_ok-statement.ensures.kept c.in_ok-statements.ensures.kept c.in_ok-statements-2.ensures.kept c.in_ok-know.ensures (map occurrence c.loop-x.so_far.items) _ _ _ _ c.in_ok-statement.ensures.occurrence c.in_ok-statements.ensures.occurrence c.in_ok-statements-2.ensures.occurrence c.loop-x.invariant.told;
      grown = grows (view.stm c.x-item.result) (known c.args.variables.now) (known c.loop-x.variables) _ _ c.loop-x.invariant.grown (c.in_ok-statements-2.ensures.kept ∙ (c.in_ok-statements.ensures.kept ∙ c.in_ok-statement.ensures.kept)) c.in_ok-know.ensures;
    }

pub keep-requires : goal.keep-requires
keep-requires t c = room (known c.args.variables.now) (known c.loop-x.variables) c.count-count.result c.loop-x.invariant.grown c.count-count.ensures

pub returns-clause-occurrence : goal.returns-clause-occurrence
returns-clause-occurrence t c =
    let setting = c.args.setting.now in
    all_put (λ (ss : List Stmt). all_occurrences (within setting (known c.loop-x.variables)) setting.function (stms_of (map view.stm ss))) c.args.all.now c.loop-x.x-index (omega arith) refl (map occurrence c.loop-x.so_far.items) _ c.loop-x.invariant.told

pub returns-clause-kept : goal.returns-clause-kept
returns-clause-kept t c = back (known c.args.variables.now) (known c.loop-x.variables) _ c.count-count.result c.loop-x.invariant.grown c.count-count.ensures c.keep.ensures
