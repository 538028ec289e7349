use Rattle.std.proofs.Common.{refl}
use Rattle.condition_formulas.specs.Standing.{Later}
use Rattle.condition_formulas.proofs.Rows.{none}
use Rattle.condition_formulas.proofs.Symbolics.{is_number}
use Rattle.condition_code.proofs.States.{no_values}
use Rattle.condition_code.proofs.scenes.inv_scene.Goals as goal

pub returns-clause-stands : goal.returns-clause-stands
returns-clause-stands c = λ x h0 h1 hx ha hb.
    let kept : Later c.args.graph.now c.nat.new.graph = λ n f h. c.in_ok-zero.ensures.later n f (c.in_ok-nothing.ensures.later n f h) in
    record { before_is = kept _ _ ha; after_is = kept _ _ hb; me_is = c.in_ok-zero.ensures.later _ _ c.in_ok-nothing.ensures.stands; this_is = kept _ _ hx; subject_is = c.in_ok-zero.ensures.later _ _ c.in_ok-nothing.ensures.stands; past_is = refl; locals_are = no_values; entry_is = no_values; result_is = is_number c.in_ok-zero.ensures.stands; bound_are = none }
