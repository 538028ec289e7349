use Rattle.std.specs.Prelude.{◌≡◌, ◌<◌, ℕ, true, false, length, slice_index_or}
use Rattle.std.proofs.Common.{sym, ◌∙◌, get_or, arith}
use Rattle.std.proofs.lemmas.Grind.{common_steps}
use Rattle.std.proofs.lemmas.List.Elements.{All-get_or}
use Rattle.conditions.specs.Formulas.{constants}
use Rattle.condition_formulas.proofs.Rows.{same_ids}
use Rattle.condition_formulas.proofs.Walks.{adds_nothing, opened, walked_constant, walked_node, has_now, still_seen, marked, turn_next, turn_last}
use Rattle.condition_formulas.proofs.constants.+visit.Goals as goal
use Rattle.condition_formulas.proofs.constants.+visit.Goals.{then-at-len-via-then-at-len, then-at-len-via-else-at-len+then-index}

pub returns-then-at-len-clause-found : goal.returns-then-at-len-clause-found
returns-then-at-len-clause-found t c = λ f within is known.
    elim c.then-at-len.branch [
      | then-at-len-via-then-at-len w ↦ absurd (omega arith)
      | then-at-len-via-else-at-len+then-index w ↦
          let here : slice_index_or c.args.seen.now.items c.args.id false ≡ true = grind (arith, common_steps) in
          sym (adds_nothing f c.args.found.now.items (known c.args.id f here is))
    ]

pub returns-then-is_constant-clause-found : goal.returns-then-is_constant-clause-found
returns-then-is_constant-clause-found t c = λ f within is known.
    c.in_ok-add_number.ensures ∙ sym (walked_constant (opened c.node-node.ensures.node is) (sym c.is_constant.ensures ∙ c.if-is_constant.true) c.args.found.now.items)

pub returns-then-is_constant-clause-seen : goal.returns-then-is_constant-clause-seen
returns-then-is_constant-clause-seen t c = λ f within is known.
    let walked : c.add_number.new.found.items ≡ constants f c.args.found.now.items = returns-then-is_constant-clause-found t c f within is known in
    marked c.args.graph.now c.args.seen.now.items c.add_number.new.found.items c.args.id f is (has_now f c.args.found.now.items _ walked) (still_seen c.args.graph.now c.args.seen.now.items f c.args.found.now.items _ walked known)

pub loop-arg-preserved : goal.loop-arg-preserved
loop-arg-preserved t c =
    let below : get_or c.numbers-arg-items.result.now c.loop-arg.arg-index 0 < c.args.id =
    All-get_or (λ (a : ℕ). a < c.args.id) c.numbers-arg-items.result.now c.loop-arg.arg-index 0 c.loop-arg-test.true (rw c.numbers-arg-items.ensures c.node-node.ensures.below) in
    let within : get_or c.numbers-arg-items.result.now c.loop-arg.arg-index 0 < length c.loop-arg.seen.items = omega (arith, c.loop-arg.invariant.long) in
    turn_next c.args.graph.now c.args.seen.now.items c.args.found.now.items c.numbers-arg-items.result.now c.loop-arg.seen.items c.visit.new.seen.items c.loop-arg.found.items c.visit.new.found.items c.loop-arg.arg-index c.loop-arg.invariant c.loop-arg-test.true c.in_ok-visit.ensures.len
    (λ f is known. c.in_ok-visit.ensures.found f within is known) (λ f is known. c.in_ok-visit.ensures.seen f within is known)

pub returns-clause-found : goal.returns-clause-found
returns-clause-found t c = λ f within is known.
    let open_ = opened c.node-node.ensures.node is in
    let end = turn_last c.loop-arg.invariant c.loop-arg-test.false open_.parts (same_ids c.numbers-arg-items.ensures open_.all) known in
    end.0 ∙ sym (walked_node open_ (sym c.is_constant.ensures ∙ c.if-is_constant.false) c.args.found.now.items)

pub returns-clause-seen : goal.returns-clause-seen
returns-clause-seen t c = λ f within is known.
    let open_ = opened c.node-node.ensures.node is in
    let end = turn_last c.loop-arg.invariant c.loop-arg-test.false open_.parts (same_ids c.numbers-arg-items.ensures open_.all) known in
    let walked : c.loop-arg.found.items ≡ constants f c.args.found.now.items = returns-clause-found t c f within is known in
    marked c.args.graph.now c.loop-arg.seen.items c.loop-arg.found.items c.args.id f is (has_now f c.args.found.now.items _ walked) end.1
