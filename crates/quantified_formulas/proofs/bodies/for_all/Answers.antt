use Rattle.condition_formulas.proofs.Rows.{none, more, both, same_ids}
use Rattle.condition_formulas.proofs.Symbolics.{symbolic_later}
use Rattle.annotation_scenes.proofs.Scenes.{scene_later}
use Rattle.quantified_formulas.proofs.bodies.for_all.Goals as goal

pub returns-clause-stands : goal.returns-clause-stands
returns-clause-stands c = λ s h.
    let first = c.scene-words.ensures _ _ (c.in_ok-formal.ensures.stands s h) in
    let owner = c.in_ok-owner.ensures.stands _ first in
    let here = scene_later c.in_ok-owner.ensures.later (scene_later c.in_ok-formal.ensures.later h) in
    let member = c.in_ok-member.ensures.stands s here in
    let words = scene_later c.in_ok-member.ensures.later (scene_later c.in_ok-owner.ensures.later first) in
    let bound = same_ids c.in_ok-bound.ensures (both (more member none) words.bound_are) in
    let inner = c.within-inner.ensures _ _ _ words (same_ids c.deref.ensures.value bound) in
    let passes = c.in_ok-passes.ensures.stands _ inner in
    let heap = c.in_ok-passes.ensures.later _ _ (c.heap-heap.ensures _ _ words) in
    let object = symbolic_later c.in_ok-passes.ensures.later (symbolic_later c.in_ok-member.ensures.later owner) in
    let whole = c.in_ok-whole.ensures.stands _ _ _ _ heap object (c.in_ok-passes.ensures.later _ _ member) passes in
    let back = scene_later c.in_ok-whole.ensures.later (scene_later c.in_ok-passes.ensures.later (scene_later c.in_ok-member.ensures.later here)) in
    c.quantify.ensures.stands _ _ back whole
