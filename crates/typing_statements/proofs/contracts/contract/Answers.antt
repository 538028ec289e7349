use Rattle.std.proofs.Common.{sym, ap, ◌∙◌, List, map, take, arith}
use Rattle.std.specs.Prelude.{flat_map}
use Rattle.c_syntax.specs.declared.items.Clause.{Clause}
use Rattle.c_syntax.specs.Items as i
use Rattle.c_syntax.specs.Views as view
use Rattle.typing_spec.specs.Pieces as pieces
use Rattle.typing_expressions.specs.Violations.{Violations, violations, joined}
use Rattle.typing_expressions.specs.Views.{context, findings}
use Rattle.typing_expressions.proofs.FoundLaws.{found_none}
use Rattle.typing_expressions.proofs.Rows.{take_at, take_all}
use Rattle.typing_statements.proofs.Items.{each_more}
use Rattle.typing_statements.proofs.contracts.contract.Goals as goal

pub loop-x-init : goal.loop-x-init
loop-x-init c = c.nothing-so_far.ensures ∙ sym found_none

pub loop-x-preserved : goal.loop-x-preserved
loop-x-preserved c =
    let k = context c.args.context in
    let done = map view.clause (take c.loop-x.x-index c.args.all.now) in
    let y = view.clause c.x-item.result in
    let one = c.clause.ensures in
    c.then-so_far.ensures ∙ (ap (λ (f : Violations). joined f (findings c.clause.result)) c.loop-x.invariant ∙ (ap (joined (violations (flat_map (pieces.clause (context c.args.context)) done))) one
    ∙ (sym (each_more (pieces.clause (context c.args.context)) done y) ∙ ap (λ (ys : List i.Clause). violations (flat_map (pieces.clause (context c.args.context)) ys)) (sym (take_at view.clause c.args.all.now c.loop-x.x-index c.x-item.result c.loop-x-test.true c.x-item.is)))))

pub returns : goal.returns
returns c = c.loop-x.invariant ∙ ap (λ (xs : List Clause). violations (flat_map (pieces.clause (context c.args.context)) (map view.clause xs))) (take_all c.args.all.now c.loop-x.x-index (omega arith))
