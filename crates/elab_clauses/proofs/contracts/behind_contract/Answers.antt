use Rattle.std.proofs.Common.{refl, arith}
use Rattle.c_syntax.specs.Views as view
use Rattle.typed_program.specs.Tables.{clause_formulas, contract_formulas}
use Rattle.elab_clauses.proofs.Clauses.{counted, counted_all}
use Rattle.elab_clauses.proofs.contracts.behind_contract.Goals as goal

pub loop-x-preserved : goal.loop-x-preserved
loop-x-preserved c =
    counted view.clause contract_formulas clause_formulas (λ x xs. refl) c.args.all.now c.loop-x.x-index c.x-item.result c.loop-x-test.true c.x-item.is _ _ _ c.in_ok-next.ensures c.loop-x.invariant

pub returns : goal.returns
returns c = counted_all view.clause contract_formulas refl c.args.all.now c.loop-x.x-index (omega arith) c.loop-x.next _ c.loop-x.invariant
