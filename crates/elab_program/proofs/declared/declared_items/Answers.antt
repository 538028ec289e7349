use Rattle.std.proofs.Common.{map, ap, ◌∙◌, ◌++◌, ◌∷◌, [], List, sym, length, take, arith}
use Rattle.elab_clauses.proofs.Steps.{pushed_one}
use Rattle.typing_expressions.proofs.Rows.{take_at, take_all}
use Rattle.c_syntax.specs.declared.items.Item as trees
use Rattle.c_syntax.specs.Items.{Item}
use Rattle.c_syntax.specs.Views as view
use Rattle.typing_spec.specs.Declarations.{structs}
use Rattle.elab_program.specs.Views.{declared}
use Rattle.elab_program.specs.Walks.{structs_behind}
use Rattle.elab_program.proofs.Walks.{item_found, item_within, structs_more}
use Rattle.elab_program.proofs.declared.declared_items.Goals as goal

pub declared_item-requires : goal.declared_item-requires
declared_item-requires c = item_within view.item c.args.items.now c.loop-x.x-index c.x-item.result c.loop-x-test.true c.x-item.is _ c.args.structs.now c.loop-x.place c.requires c.loop-x.invariant.1

pub next_place-place-requires : goal.next_place-place-requires
next_place-place-requires c = item_within view.item c.args.items.now c.loop-x.x-index c.x-item.result c.loop-x-test.true c.x-item.is _ c.args.structs.now c.loop-x.place c.requires c.loop-x.invariant.1

pub loop-x-preserved : goal.loop-x-preserved
loop-x-preserved c =
    let xs = c.args.items.now in
    let l = c.loop-x in
    let x = c.x-item.result in
    let lt = c.loop-x-test.true in
    let done = map view.item (take l.x-index xs) in
    let more = sym (take_at view.item xs l.x-index x lt c.x-item.is) in (
      pushed_one declared _ _ _ _ c.in_ok-push.ensures.items (c.declared_item.ensures ∙ item_found view.item xs l.x-index x lt c.x-item.is _ l.place c.requires l.invariant.1)
          ∙ (ap (λ (ys : List Item). ys ++ view.item x ∷ []) l.invariant.0 ∙ more),
      c.next_place-place.ensures ∙ (ap (λ n. structs_behind n (view.item x)) l.invariant.1 ∙ (structs_more done (view.item x) ∙ ap (λ (ys : List Item). length (structs ys)) more)),
    )

pub returns : goal.returns
returns c = c.loop-x.invariant.0 ∙ ap (λ (xs : List trees.Item). map view.item xs) (take_all c.args.items.now c.loop-x.x-index (omega arith))
