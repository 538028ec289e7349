use Rattle.std.specs.Prelude.{◌≡◌, ◌<◌, ◌≤◌, length, map, None, slice_index_or}
use Rattle.std.specs.Int.{w128}
use Rattle.std.proofs.Common.{ap, sym, subst, ◌∙◌, arith}
use Rattle.std.proofs.lemmas.Int.{to_z-of_z}
use Rattle.std.proofs.lemmas.List.{get_or_read}
use Rattle.conditions.specs.Quantified.{renumber}
use Rattle.condition_formulas.proofs.Rows.{same_ids}
use Rattle.condition_formulas.proofs.Walks.{opened, stands_within}
use Rattle.quantified_formulas.specs.Renumbering.{AreRenumbered}
use Rattle.quantified_formulas.proofs.Renaming.{as_known, known_more, renumbered_later, turn_next, turn_last, made_node}
use Rattle.annotation_scenes.proofs.Done.{then_later}
use Rattle.quantified_formulas.proofs.renumbering.+renumber.Goals as goal

pub returns-in-Some-clause-stands : goal.returns-in-Some-clause-stands
returns-in-Some-clause-stands t c = λ f here are.
    as_known c.args.id c.in-Some.new f are (ap (λ ks. slice_index_or ks c.args.id None) (sym c.deref.ensures.value) ∙ sym c.known_at.ensures ∙ c.in-Some.is) here

pub returns-then-id-len-clause-stands : goal.returns-then-id-len-clause-stands
returns-then-id-len-clause-stands t c = λ f here are.
    let within = stands_within here in
    absurd (omega arith)

pub loop-i-preserved : goal.loop-i-preserved
loop-i-preserved t c =
    let below : c.loop-i.i < length c.in_ok-args.args.items = omega arith in
    turn_next c.args.places.now c.args.known.now.items c.args.graph.now c.loop-i.graph c.renumber.new.graph c.in_ok-args.args.items c.loop-i.renumbered.items c.push.new.self.items c.loop-i.known.items c.renumber.new.known.items c.loop-i.i c.in_ok-arg.arg c.index.result.now c.loop-i.invariant below (get_or_read c.in_ok-args.args.items c.loop-i.i c.index.result.now below c.index.ensures 0) c.in_ok-arg.ensures.later c.in_ok-arg.ensures.stands c.in_ok-arg.ensures.known c.in_ok-push.ensures.items

pub returns-clause-stands : goal.returns-clause-stands
returns-clause-stands t c = λ f here are.
    let open_ = opened c.node-old.ensures.node here in
    let end : length c.in_ok-args.args.items ≤ c.loop-i.i = omega arith in
    let done = turn_last c.loop-i.invariant end open_.parts (same_ids (c.in_ok-args.ensures ∙ c.numbers.ensures) open_.all) are in
    made_node c.args.places.now open_ c.index_by_place-index.ensures.value (rw (to_z-of_z w128 c.index_by_place-index.result c.index_by_place-index.ensures.fits) at (c.in_ok-new.ensures.stands (map (renumber c.args.places.now) open_.parts) (same_ids c.deref-2.ensures.value done.0)))

pub returns-clause-known : goal.returns-clause-known
returns-clause-known t c = λ f here are.
    let open_ = opened c.node-old.ensures.node here in
    let end : length c.in_ok-args.args.items ≤ c.loop-i.i = omega arith in
    let done = turn_last c.loop-i.invariant end open_.parts (same_ids (c.in_ok-args.ensures ∙ c.numbers.ensures) open_.all) are in
    let later = then_later c.loop-i.invariant.later c.in_ok-new.ensures.later in
    subst (λ ks. AreRenumbered c.node.new.graph c.args.places.now ks) (sym c.note.ensures) (known_more c.args.id c.in_ok-new.new f (later _ _ here) (returns-clause-stands t c f here are) (renumbered_later c.in_ok-new.ensures.later done.1))
