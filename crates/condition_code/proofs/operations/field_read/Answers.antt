use Rattle.condition_code.proofs.Walks.{gives, run_built, check_then}
use Rattle.condition_code.proofs.operations.field_read.Goals as goal

pub returns : goal.returns
returns c = λ b s x hb hs hx.
    let went = c.in_ok-check.ensures _ (c.in_ok-allowed.ensures.stands _ _ _ hb hs hx) in
    let heap = went.later _ _ (c.in_ok-allowed.ensures.later _ _ hs.heap_is) in
    let o = went.later _ _ (c.in_ok-allowed.ensures.later _ _ hx) in
    let value = c.in_ok-value.ensures.stands _ _ heap o in
    run_built c.in_ok-allowed.ensures.later (check_then went (gives c.in_ok-value.ensures.later (rw c.type_of_field.ensures at (c.symbolic_of_type.ensures _ _ value))))
