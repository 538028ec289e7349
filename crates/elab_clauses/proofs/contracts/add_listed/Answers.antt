use Rattle.std.proofs.Common.{[], ◌∷◌, refl, ap, ◌∙◌, map, arith}
use Rattle.c_syntax.specs.Views as view
use Rattle.elab_code.specs.Views.{around}
use Rattle.elab_annotations.specs.Views.{Typed}
use Rattle.typed_program.specs.Annotations.{formulas, spec}
use Rattle.typed_program.specs.Shapes.{numbered}
use Rattle.typed_program.specs.Tables as tables
use Rattle.typed_program.specs.Tables.{item_of, clause_formulas}
use Rattle.typed_program.specs.Views as seen
use Rattle.elab_clauses.specs.Numberings.{numbering, typed_said}
use Rattle.elab_clauses.proofs.Steps.{pushed_one, one_more, all_added}
use Rattle.elab_clauses.proofs.contracts.add_listed.Goals as goal

pub loop-x-preserved : goal.loop-x-preserved
loop-x-preserved c =
    let k = numbering c.args.numbering in
    let a = around c.args.around in
    let f = numbered k.shapes k.sorts in
    let l = c.loop-x in
    let object = c.in_ok-object.ensures ∙ ap (typed_said k a l.next) c.item_of.ensures in
    one_more view.written (λ n ws. map f (tables.listed_items a n ws)) (λ n w. f (spec a n (item_of w)) ∷ []) (λ w. formulas (item_of w)) (λ n w ws. refl)
    c.args.all.now l.x-index c.x-item.result c.loop-x-test.true c.x-item.is _ _ (ap (λ (v : Typed). v.next) object) _ _ _ (pushed_one seen.spec _ _ _ _ c.in_ok-push.ensures.items (ap (λ (v : Typed). v.spec) object)) l.invariant

pub returns : goal.returns
returns c =
    let k = numbering c.args.numbering in
    all_added view.written (λ ws. map (numbered k.shapes k.sorts) (tables.listed_items (around c.args.around) c.loop-x.next ws)) refl c.args.all.now c.loop-x.x-index (omega arith) _ _ c.loop-x.invariant
