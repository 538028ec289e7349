use Rattle.std.proofs.Common.{refl}
use Rattle.condition_formulas.specs.Standing.{Later}
use Rattle.condition_formulas.proofs.Rows.{none}
use Rattle.condition_formulas.proofs.Symbolics.{are_later, symbolic_later}
use Rattle.condition_code.proofs.scenes.return_scene.Goals as goal

pub returns-clause-stands : goal.returns-clause-stands
returns-clause-stands c = λ e ws h w he hws hh hw.
    let kept : Later c.args.graph.now c.null.new.graph = λ n f h. c.in_ok-nothing.ensures.later n f (c.in_ok-thread.ensures.later n f h) in
    record { before_is = kept _ _ he; after_is = kept _ _ hh; me_is = c.in_ok-nothing.ensures.later _ _ c.in_ok-thread.ensures.stands; this_is = c.in_ok-nothing.ensures.stands; subject_is = c.in_ok-nothing.ensures.stands; past_is = refl; locals_are = are_later kept hws; entry_is = are_later kept hws; result_is = symbolic_later kept hw; bound_are = none }
