use Rattle.std.proofs.Common.{refl}
use Rattle.condition_formulas.proofs.Symbolics.{are_later}
use Rattle.condition_code.proofs.States.{state_later, same_values}
use Rattle.condition_walk.proofs.Entries.{beside, other_locals}
use Rattle.condition_control.proofs.Steps.{begun_twice}
use Rattle.condition_walk.proofs.entry.with_zeros.Goals as goal

pub returns-clause-stands : goal.returns-clause-stands
returns-clause-stands c = λ s ws hs hws.
    let on = c.in_ok-rest.ensures.later in
    let rest = rw c.other_variables.ensures at c.in_ok-rest.ensures.stands in
    let values = beside (are_later on hws) (same_values c.deref.ensures.value rest) in
    other_locals (state_later on hs) (same_values (begun_twice c.args.args.now c.deref.result.now c.new-locals.ensures.items c.in_ok-extend_from_slice.ensures.items c.in_ok-extend_from_slice-2.ensures.items refl) values)
