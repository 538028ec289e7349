use Rattle.std.proofs.Common.{refl}
use Rattle.condition_formulas.proofs.Rows.{all_later, same_ids}
use Rattle.quantified_formulas.proofs.members.listed_objects.Goals as goal

pub returns-clause-stands : goal.returns-clause-stands
returns-clause-stands c =
    let up = c.in_ok-known.ensures.later in
    let member = up _ _ c.in_ok-member.ensures.stands in
    let claim = up _ _ (c.in_ok-member.ensures.later _ _ c.in_ok-claim.ensures.stands) in
    let now = up _ _ (c.in_ok-member.ensures.later _ _ (c.in_ok-claim.ensures.later _ _ c.in_ok-now.ensures.stands)) in
    let listed = c.in_ok-listed.ensures.stands _ _ _ now claim member in
    let known = same_ids c.deref.ensures.value (all_later c.in_ok-listed.ensures.later c.in_ok-known.ensures.stands) in
    let same = c.in_ok-same.ensures.stands _ _ (c.in_ok-listed.ensures.later _ _ member) known in
    let one = c.in_ok-one.ensures.stands _ (same_ids c.deref-2.ensures.value same) in
    record {
      number_is = refl;
      sorts_are = c.in_ok-arguments.ensures;
      body_is = c.in_ok-body.ensures.stands _ _ (c.in_ok-one.ensures.later _ _ (c.in_ok-same.ensures.later _ _ listed)) one;
    }
