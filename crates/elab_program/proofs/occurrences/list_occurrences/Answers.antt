use Rattle.std.proofs.Common.{refl, ap, ◌∙◌, ◌+◌, map, arith, ◌++◌, ◌∷◌, []}
use Rattle.c_syntax.specs.Views as view
use Rattle.elab_sites.specs.Views.{occurrence}
use Rattle.elab_clauses.proofs.Steps.{one_more, all_added}
use Rattle.elab_code.specs.Views.{around}
use Rattle.typed_program.specs.Annotations.{formulas, spec}
use Rattle.typed_program.specs.Sites.{Says}
use Rattle.typed_program.specs.Tables as tables
use Rattle.typed_program.specs.Tables.{item_of}
use Rattle.elab_program.proofs.occurrences.list_occurrences.Goals as goal

pub loop-x-preserved : goal.loop-x-preserved
loop-x-preserved c =
    let a = around c.args.around in
    let l = c.loop-x in
    one_more view.written (λ n ws. map Says (tables.listed_items a n ws)) (λ n w. Says (spec a n (item_of w)) ∷ []) (λ w. formulas (item_of w)) (λ n w ws. refl)
    c.args.all.now l.x-index c.x-item.result c.loop-x-test.true c.x-item.is _ _ (c.in_ok-next.ensures.next ∙ ap (λ e. l.next + formulas e) c.item_of.ensures) _ _ _
    (c.in_ok-next.ensures.added ∙ ap (λ e. map occurrence l.so_far.items ++ Says (spec a l.next e) ∷ []) c.item_of.ensures) l.invariant

pub returns : goal.returns
returns c =
    let a = around c.args.around in
    all_added view.written (λ ws. map Says (tables.listed_items a c.loop-x.next ws)) refl c.args.all.now c.loop-x.x-index (omega arith) _ _ c.loop-x.invariant
