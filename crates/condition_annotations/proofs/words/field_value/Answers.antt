use Rattle.condition_annotations.proofs.words.field_value.Goals as goal

pub returns-clause-stands : goal.returns-clause-stands
returns-clause-stands c = λ s v h0 h1.
    rw c.type_of_field.ensures at (c.symbolic_of_type.ensures _ _ (c.in_ok-held.ensures.stands _ _ (c.in_ok-o.ensures.later _ _ (c.heap-heap.ensures _ _ h0)) (c.in_ok-o.ensures.stands _ h1)))
