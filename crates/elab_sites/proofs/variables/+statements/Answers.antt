use Rattle.std.proofs.Common.{refl, List, map, arith}
use Rattle.std.specs.Prelude.{flat_map}
use Rattle.c_syntax.specs.declared.statements.Stmt.{Stmt}
use Rattle.c_syntax.specs.Views as view
use Rattle.typing_symbols.specs.Scopes.{variable}
use Rattle.typed_program.specs.Variables as spec
use Rattle.elab_sites.proofs.ByBodies.{body_smaller, else_smaller}
use Rattle.elab_sites.proofs.Telling.{all_put, statements_declare}
use Rattle.elab_sites.proofs.variables.+statements.Goals as goal

pub add_statements-requires : goal.add_statements-requires
add_statements-requires t c = (omega (arith, c.decreases, body_smaller c.args.all.now c.loop-x.x-index c.x-item.result c.loop-x-test.true c.x-item.is (map view.stm c.body.result.now) c.body.ensures), tt)

pub add_statements-requires-in-loop-x : goal.add_statements-requires-in-loop-x
add_statements-requires-in-loop-x t c = (omega (arith, c.decreases, else_smaller c.args.all.now c.loop-x.x-index c.x-item.result c.loop-x-test.true c.x-item.is (map view.stm c.else_body.result.now) c.else_body.ensures), tt)

pub loop-x-preserved : goal.loop-x-preserved
loop-x-preserved t c =
    statements_declare c.args.all.now c.loop-x.x-index c.x-item.result c.loop-x-test.true c.x-item.is (map view.stm c.body.result.now) (map view.stm c.else_body.result.now) c.body.ensures c.else_body.ensures (map variable c.loop-x.declared.items) _ _ _ _
    c.in_ok-add_statement.ensures c.in_ok-add_statements.ensures c.in_ok-add_statements-2.ensures c.loop-x.invariant

pub returns : goal.returns
returns t c = all_put (λ (ss : List Stmt). flat_map spec.declared (map view.stm ss)) c.args.all.now c.loop-x.x-index (omega arith) refl (map variable c.loop-x.declared.items) _ c.loop-x.invariant
