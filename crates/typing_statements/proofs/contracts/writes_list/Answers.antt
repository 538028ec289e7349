use Rattle.std.proofs.Common.{sym, ap, ◌∙◌, List, map, take, arith}
use Rattle.std.specs.Prelude.{flat_map}
use Rattle.typing_statements.specs.Parts.{listed_found}
use Rattle.typing_statements.proofs.Items.{listed_is}
use Rattle.c_syntax.specs.declared.items.WritesItem.{WritesItem}
use Rattle.c_syntax.specs.Items.{Written}
use Rattle.c_syntax.specs.Views as view
use Rattle.typing_statements.specs.Parts.{listed_pieces}
use Rattle.typing_expressions.specs.Violations.{Violations, violations, joined}
use Rattle.typing_expressions.specs.Views.{context, findings}
use Rattle.typing_expressions.proofs.FoundLaws.{found_none}
use Rattle.typing_expressions.proofs.Rows.{take_at, take_all}
use Rattle.typing_statements.proofs.Items.{each_more}
use Rattle.typing_statements.proofs.contracts.writes_list.Goals as goal

pub loop-x-init : goal.loop-x-init
loop-x-init c = c.nothing-so_far.ensures ∙ sym found_none

pub loop-x-preserved : goal.loop-x-preserved
loop-x-preserved c =
    let k = context c.args.context in
    let done = map view.written (take c.loop-x.x-index c.args.all.now) in
    let y = view.written c.x-item.result in
    let one = c.listed_item.ensures ∙ (ap (listed_found k) c.listed.ensures ∙ sym (listed_is k y)) in
    c.then-so_far.ensures ∙ (ap (λ (f : Violations). joined f (findings c.listed_item.result)) c.loop-x.invariant ∙ (ap (joined (violations (flat_map (listed_pieces (context c.args.context)) done))) one
    ∙ (sym (each_more (listed_pieces (context c.args.context)) done y) ∙ ap (λ (ys : List Written). violations (flat_map (listed_pieces (context c.args.context)) ys)) (sym (take_at view.written c.args.all.now c.loop-x.x-index c.x-item.result c.loop-x-test.true c.x-item.is)))))

pub returns : goal.returns
returns c = c.loop-x.invariant ∙ ap (λ (xs : List WritesItem). violations (flat_map (listed_pieces (context c.args.context)) (map view.written xs))) (take_all c.args.all.now c.loop-x.x-index (omega arith))
