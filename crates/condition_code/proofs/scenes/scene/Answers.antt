use Rattle.std.proofs.Common.{refl}
use Rattle.condition_formulas.specs.Standing.{Later}
use Rattle.condition_formulas.proofs.Rows.{none}
use Rattle.condition_formulas.proofs.Symbolics.{are_later, is_number}
use Rattle.condition_code.proofs.States.{same_values}
use Rattle.condition_code.proofs.scenes.scene.Goals as goal

pub returns-clause-stands : goal.returns-clause-stands
returns-clause-stands c = λ b s hb hs.
    let kept : Later c.args.graph.now c.nat.new.graph = λ n f h. c.in_ok-zero.ensures.later n f (c.in_ok-nothing.ensures.later n f (c.in_ok-thread.ensures.later n f h)) in
    record { before_is = kept _ _ hb.entry_is; after_is = kept _ _ hs.heap_is; me_is = c.in_ok-zero.ensures.later _ _ (c.in_ok-nothing.ensures.later _ _ c.in_ok-thread.ensures.stands); this_is = c.in_ok-zero.ensures.later _ _ c.in_ok-nothing.ensures.stands; subject_is = c.in_ok-zero.ensures.later _ _ c.in_ok-nothing.ensures.stands; past_is = refl; locals_are = same_values c.deref.ensures.value (are_later kept hs.locals_are); entry_is = are_later kept hb.args_are; result_is = is_number c.in_ok-zero.ensures.stands; bound_are = none }
