use Rattle.annotation_scenes.proofs.Done.{then_later}
use Rattle.condition_formulas.proofs.Rows.{both, more, none, all_later, same_ids}
use Rattle.condition_formulas.proofs.Symbolics.{are_later}
use Rattle.conditions.specs.Statements.{outside_spot}
use Rattle.condition_walk.proofs.entry.entry_facts.Goals as goal

pub returns-clause-stands : goal.returns-clause-stands
returns-clause-stands c = λ s ws hh hws.
    let good = c.in_ok-good.ensures.stands _ (more hh none) in
    let typed = rw c.parameters.ensures at (c.in_ok-typed.ensures.stands ws (are_later c.in_ok-good.ensures.later hws)) in
    let on = then_later c.in_ok-good.ensures.later c.in_ok-typed.ensures.later in
    let required = c.in_ok-required.ensures.stands (outside_spot c.args.program.now c.args.f.now s.heap ws) s.heap ws (on _ _ hh) (are_later on hws) in
    let off = c.in_ok-required.ensures.later in
    let front = same_ids c.in_ok-all.ensures (both (more (off _ _ (c.in_ok-typed.ensures.later _ _ good)) none) (same_ids c.deref.ensures.value (all_later off typed))) in
    same_ids c.in_ok-extend_from_slice.ensures.items (both front (same_ids c.deref-2.ensures.value required))
