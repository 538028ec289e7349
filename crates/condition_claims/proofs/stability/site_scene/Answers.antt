use Rattle.std.proofs.Common.{refl}
use Rattle.condition_formulas.proofs.Rows.{none}
use Rattle.condition_formulas.proofs.Symbolics.{are_later, is_number}
use Rattle.condition_code.proofs.States.{no_values}
use Rattle.condition_claims.proofs.stability.site_scene.Goals as goal

pub returns-clause-stands : goal.returns-clause-stands
returns-clause-stands c = λ p ws hws.
    let l1 = c.in_ok-earlier.ensures.later in
    let l2 = c.in_ok-thread.ensures.later in
    let l3 = c.in_ok-nothing.ensures.later in
    let l4 = c.in_ok-zero.ensures.later in
    let heap = l4 _ _ (l3 _ _ (l2 _ _ c.in_ok-earlier.ensures.stands)) in
    let nothing = l4 _ _ c.in_ok-nothing.ensures.stands in
    record { before_is = heap; after_is = heap; me_is = l4 _ _ (l3 _ _ c.in_ok-thread.ensures.stands); this_is = nothing; subject_is = nothing; past_is = refl; locals_are = are_later l4 (are_later l3 (are_later l2 (are_later l1 hws))); entry_is = no_values; result_is = is_number c.in_ok-zero.ensures.stands; bound_are = none }
