use Rattle.std.proofs.Common.{refl}
use Rattle.condition_formulas.proofs.Rows.{all_later, same_ids}
use Rattle.annotation_scenes.proofs.Done.{then_later}
use Rattle.quantified_formulas.proofs.members.fixed_members.Goals as goal

pub returns-clause-stands : goal.returns-clause-stands
returns-clause-stands c =
    let from_written = then_later c.in_ok-entry.ensures.later c.in_ok-member.ensures.later in
    let from_thread = then_later c.in_ok-written.ensures.later from_written in
    let from_now = then_later c.in_ok-thread.ensures.later from_thread in
    let from_object = then_later c.in_ok-now.ensures.later from_now in
    let from_set = then_later c.in_ok-object.ensures.later from_object in
    let written = same_ids c.deref.ensures.value (all_later from_written c.in_ok-written.ensures.stands) in
    record {
      number_is = refl;
      sorts_are = c.in_ok-arguments.ensures;
      body_is = c.in_ok-body.ensures.stands _ _ _ _ _ _ _ (from_set _ _ c.in_ok-set.ensures.stands) (from_object _ _ c.in_ok-object.ensures.stands) (from_now _ _ c.in_ok-now.ensures.stands) (from_thread _ _ c.in_ok-thread.ensures.stands) (c.in_ok-member.ensures.later _ _ c.in_ok-entry.ensures.stands) written c.in_ok-member.ensures.stands;
    }
