use Rattle.std.proofs.Common.{refl, arith, ap, ◌∙◌, ◌++◌, ◌∷◌, [], List}
use Rattle.c_syntax.specs.Items.{Item}
use Rattle.elab_clauses.proofs.Steps.{all_added}
use Rattle.method.specs.declared.program.Item as places
use Rattle.typed_program.specs.Tables as tables
use Rattle.elab_program.specs.Views.{declared}
use Rattle.elab_program.specs.Walks as spec
use Rattle.elab_program.proofs.Steps.{one_more}
use Rattle.elab_program.proofs.Walks.{Places, next_places, places_of, order_law}
use Rattle.elab_program.proofs.tables.places.Goals as goal

pub loop-x-preserved : goal.loop-x-preserved
loop-x-preserved c =
    let l = c.loop-x in
    one_more declared (λ (p : Places) (xs : List Item). tables.order p.structs p.functions xs) (λ (p : Places) (x : Item). spec.place_of_item p.structs p.functions x ∷ []) next_places order_law
    c.args.all.now l.x-index c.x-item.result c.loop-x-test.true c.x-item.is (places_of l.structs l.functions) (places_of _ _) (λ i. places_of (c.in_ok-structs.ensures i) (c.in_ok-functions.ensures i)) _ _ _
    (c.in_ok-push.ensures.items ∙ ap (λ (p : places.Item). l.so_far.items ++ p ∷ []) c.item_place.ensures) l.invariant

pub returns : goal.returns
returns c = all_added declared (tables.order c.loop-x.structs c.loop-x.functions) refl c.args.all.now c.loop-x.x-index (omega arith) _ _ c.loop-x.invariant
