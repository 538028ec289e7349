use Rattle.std.proofs.Common.{refl}
use Rattle.condition_code.proofs.States.{no_values, same_values}
use Rattle.condition_walk.proofs.Entries.{nothing_changed, nothing_made}
use Rattle.condition_walk.proofs.entry.first_state.Goals as goal

pub returns-clause-stands : goal.returns-clause-stands
returns-clause-stands c =
    c.new_heap.ensures.stands _ (record { heap_is = c.in_ok-nothing.ensures.stands; locals_are = same_values c.new.ensures.items no_values; integers_is = refl; references_is = refl; heaps_is = refl; changed_are = nothing_changed c.new-2.ensures.items; made_are = nothing_made c.new-3.ensures.items })
