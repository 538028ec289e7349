use Rattle.std.proofs.Common.{refl}
use Rattle.condition_formulas.specs.Standing.{Later}
use Rattle.condition_formulas.proofs.Rows.{none}
use Rattle.condition_formulas.proofs.Symbolics.{are_later, is_number}
use Rattle.condition_code.proofs.States.{no_values}
use Rattle.condition_scenes.proofs.conjuncts.claim_scene.Goals as goal

pub returns-clause-stands : goal.returns-clause-stands
returns-clause-stands c = λ h ws hh hws.
    let kept : Later c.args.graph.now c.nat.new.graph = λ n f g. c.in_ok-zero.ensures.later n f (c.in_ok-nothing.ensures.later n f g) in
    let nothing = c.in_ok-zero.ensures.later _ _ c.in_ok-nothing.ensures.stands in
    record { before_is = kept _ _ hh; after_is = kept _ _ hh; me_is = nothing; this_is = nothing; subject_is = nothing; past_is = refl; locals_are = are_later kept hws; entry_is = no_values; result_is = is_number c.in_ok-zero.ensures.stands; bound_are = none }
