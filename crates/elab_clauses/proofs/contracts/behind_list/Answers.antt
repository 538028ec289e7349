use Rattle.std.proofs.Common.{refl, ap, ◌∙◌, ◌+◌, arith}
use Rattle.c_syntax.specs.Views as view
use Rattle.typed_program.specs.Annotations.{formulas}
use Rattle.typed_program.specs.Tables.{item_of, list_formulas}
use Rattle.elab_clauses.proofs.Clauses.{counted, counted_all}
use Rattle.elab_clauses.proofs.contracts.behind_list.Goals as goal

pub loop-x-preserved : goal.loop-x-preserved
loop-x-preserved c =
    counted view.written list_formulas (λ w. formulas (item_of w)) (λ w ws. refl) c.args.all.now c.loop-x.x-index c.x-item.result c.loop-x-test.true c.x-item.is _ _ _ (c.in_ok-next.ensures ∙ ap (λ e. c.loop-x.next + formulas e) c.item_of.ensures) c.loop-x.invariant

pub returns : goal.returns
returns c = counted_all view.written list_formulas refl c.args.all.now c.loop-x.x-index (omega arith) c.loop-x.next _ c.loop-x.invariant
