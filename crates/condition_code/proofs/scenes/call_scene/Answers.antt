use Rattle.std.proofs.Common.{refl}
use Rattle.condition_formulas.specs.Standing.{Later}
use Rattle.condition_formulas.proofs.Rows.{none}
use Rattle.condition_formulas.proofs.Symbolics.{are_later, is_number}
use Rattle.condition_code.proofs.scenes.call_scene.Goals as goal

pub returns-clause-stands : goal.returns-clause-stands
returns-clause-stands c = λ t h ws ht hh hws.
    let kept : Later c.args.graph.now c.nat.new.graph = λ n f h. c.in_ok-zero.ensures.later n f (c.in_ok-nothing.ensures.later n f h) in
    record { before_is = kept _ _ hh; after_is = kept _ _ hh; me_is = kept _ _ ht; this_is = c.in_ok-zero.ensures.later _ _ c.in_ok-nothing.ensures.stands; subject_is = c.in_ok-zero.ensures.later _ _ c.in_ok-nothing.ensures.stands; past_is = refl; locals_are = are_later kept hws; entry_is = are_later kept hws; result_is = is_number c.in_ok-zero.ensures.stands; bound_are = none }
