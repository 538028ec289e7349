use Rattle.std.proofs.Common.{◌∙◌}
use Rattle.condition_formulas.proofs.Rows.{same_ids}
use Rattle.annotation_scenes.proofs.quantifiers.free_parts.Goals as goal

pub returns-clause-stands : goal.returns-clause-stands
returns-clause-stands c = λ s f h is.
    let places = c.deref-2.ensures.value ∙ c.in_ok-places.ensures _ (c.in_ok-parts.ensures.later _ _ is) in
    rw places at (c.at_places.ensures.stands _ (same_ids c.deref.ensures.value (c.in_ok-parts.ensures.stands _ h)))
