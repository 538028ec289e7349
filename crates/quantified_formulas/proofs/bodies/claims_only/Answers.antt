use Rattle.condition_formulas.proofs.Rows.{same_ids}
use Rattle.condition_formulas.proofs.Symbolics.{symbolic_later}
use Rattle.annotation_scenes.proofs.Scenes.{scene_later}
use Rattle.quantified_formulas.proofs.bodies.claims_only.Goals as goal

pub returns-clause-stands : goal.returns-clause-stands
returns-clause-stands c = λ s h.
    let first = c.scene-words.ensures _ _ (c.in_ok-formal.ensures.stands s h) in
    let about = c.in_ok-about.ensures.stands _ first in
    let here = scene_later c.in_ok-about.ensures.later (scene_later c.in_ok-formal.ensures.later h) in
    let member = c.in_ok-member.ensures.stands s here in
    let words = scene_later c.in_ok-member.ensures.later (scene_later c.in_ok-about.ensures.later first) in
    let ids = same_ids c.deref.ensures.value (c.in_ok-ids.ensures.stands _ words) in
    let heap = c.in_ok-ids.ensures.later _ _ (c.heap-heap.ensures _ _ words) in
    let claim = symbolic_later c.in_ok-ids.ensures.later (symbolic_later c.in_ok-member.ensures.later about) in
    let whole = c.in_ok-whole.ensures.stands _ _ _ _ heap claim (c.in_ok-ids.ensures.later _ _ member) ids in
    let back = scene_later c.in_ok-whole.ensures.later (scene_later c.in_ok-ids.ensures.later (scene_later c.in_ok-member.ensures.later here)) in
    c.quantify.ensures.stands _ _ back whole
