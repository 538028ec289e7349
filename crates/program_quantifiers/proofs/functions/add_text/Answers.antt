use Rattle.annotation_scenes.proofs.Scenes.{scene_later}
use Rattle.program_quantifiers.proofs.Adding.{then_adds, so_adds}
use Rattle.program_quantifiers.proofs.functions.add_text.Goals as goal

pub returns : goal.returns
returns c = λ h.
    let one = rw c.deref.ensures.value at (c.in_ok-add_clauses.ensures _ h) in
    let behind_one = scene_later one.later h in
    let two = rw c.deref-2.ensures.value at (c.in_ok-add_clauses-2.ensures _ behind_one) in
    let behind_two = scene_later two.later behind_one in
    let three = rw c.deref-3.ensures.value at (c.in_ok-add_annotations.ensures _ behind_two) in
    so_adds c.add_statements.result _ _ _ _ _ (then_adds (then_adds one two) three) (rw c.deref-4.ensures.value at (c.add_statements.ensures (scene_later three.later behind_two)))
