use Rattle.std.proofs.Common.{ap, sym, subst, ◌∙◌}
use Rattle.method.specs.declared.program.Spec.{Spec}
use Rattle.conditions.specs.Annotations.{Scene}
use Rattle.conditions.specs.Quantified.{spec_quantifiers}
use Rattle.condition_formulas.proofs.Rows.{same_ids}
use Rattle.annotation_scenes.specs.Scenes.{IsScene}
use Rattle.annotation_scenes.proofs.Scenes.{scene_later}
use Rattle.program_quantifiers.specs.Quantifiers.{Adds}
use Rattle.program_quantifiers.proofs.Adding.{adds_none, then_adds, so_adds, same_added, to_graph, row_first, row_next, row_last}
use Rattle.program_quantifiers.proofs.Alike.{no_part, one_part, two_parts}
use Rattle.program_quantifiers.proofs.Vectors.{claims_row, claims_only_row, exists_row}
use Rattle.program_quantifiers.proofs.annotations.+add_annotation.Goals as goal

pub add_annotation-returns-in-Number : goal.add_annotation-returns-in-Number
add_annotation-returns-in-Number t c = λ s h.
    subst (λ qs. Adds c.args.list.now c.args.list.now qs) (no_part c.args.program.now s c.args.e.now c.in-Number.is) (adds_none c.args.list.now)

pub add_annotation-returns-in-Field : goal.add_annotation-returns-in-Field
add_annotation-returns-in-Field t c = λ s h.
    same_added c.add_annotation-in-Field.result _ _ _ _ (one_part c.args.program.now s c.args.e.now c.in-Field.x c.in-Field.is) (rw c.deref-in-Field.ensures at (c.add_annotation-in-Field.ensures s h))

pub add_annotation-returns-in_ok-add_annotation-in-Member : goal.add_annotation-returns-in_ok-add_annotation-in-Member
add_annotation-returns-in_ok-add_annotation-in-Member t c = λ s h.
    let one = rw c.deref-in-Member.ensures at (c.in_ok-add_annotation-in-Member.ensures s h) in
    let two = rw c.deref-in-Member-2.ensures at (c.add_annotation-in-Member-2.ensures s (scene_later one.later h)) in
    same_added c.add_annotation-in-Member-2.result _ _ _ _ (two_parts c.args.program.now s c.args.e.now c.in-Member.x c.in-Member.y c.in-Member.is) (so_adds c.add_annotation-in-Member-2.result _ _ _ _ _ one two)

pub add_annotation-returns-in_ok-add_annotation-in-Choose-2 : goal.add_annotation-returns-in_ok-add_annotation-in-Choose-2
add_annotation-returns-in_ok-add_annotation-in-Choose-2 t c = λ s h.
    let one = rw c.deref.ensures at (c.in_ok-add_annotation-in-Choose.ensures s h) in
    let here = scene_later one.later h in
    let two = rw c.deref-in-Choose.ensures at (c.in_ok-add_annotation-in-Choose-2.ensures s here) in
    let three = rw c.deref-in-Choose-2.ensures at (c.add_annotation-in-Choose-2.ensures s (scene_later two.later here)) in
    same_added c.add_annotation-in-Choose-2.result _ _ _ _ (ap (λ (b : Spec). spec_quantifiers c.args.program.now b s) (sym c.in-Choose.is)) (so_adds c.add_annotation-in-Choose-2.result _ _ _ _ _ (then_adds one two) three)

pub add_annotation-returns-in-Old : goal.add_annotation-returns-in-Old
add_annotation-returns-in-Old t c = λ s h.
    same_added c.add_annotation-in-Old.result _ _ _ _ (ap (λ (b : Spec). spec_quantifiers c.args.program.now b s) (sym c.in-Old.is)) (rw c.deref-in-Old.ensures at (c.add_annotation-in-Old.ensures _ (c.old.ensures _ _ h)))

pub add_annotation-returns-in_ok-add_annotation-in-ClaimsOnly : goal.add_annotation-returns-in_ok-add_annotation-in-ClaimsOnly
add_annotation-returns-in_ok-add_annotation-in-ClaimsOnly t c = λ s h.
    let one = rw (c.deref-in-ClaimsOnly.ensures, c.deref-in-ClaimsOnly-2.ensures.value) at (c.in_ok-add_claims_only-in-ClaimsOnly.ensures s h) in
    let here = scene_later one.later h in
    let two = rw c.deref-in-ClaimsOnly-3.ensures at (c.in_ok-add_annotation-in-ClaimsOnly.ensures s here) in
    let three = rw c.deref-in-ClaimsOnly-4.ensures.value at (c.add_annotations.ensures s (scene_later two.later here)) in
    same_added c.add_annotations.result _ _ _ _ (sym (ap (λ (b : Spec). spec_quantifiers c.args.program.now b s) c.in-ClaimsOnly.is ∙ claims_only_row c.args.program.now s c.in-ClaimsOnly.n c.in-ClaimsOnly.c c.in-ClaimsOnly.objects)) (so_adds c.add_annotations.result _ _ _ _ _ (then_adds one two) three)

pub add_annotation-returns-in_ok-add_annotation-in-Claims : goal.add_annotation-returns-in_ok-add_annotation-in-Claims
add_annotation-returns-in_ok-add_annotation-in-Claims t c = λ s h.
    let one = rw c.deref-in-Claims.ensures at (c.in_ok-add_annotation-in-Claims.ensures s h) in
    let two = rw c.deref-in-Claims-2.ensures.value at (c.add_annotations-in-Claims.ensures s (scene_later one.later h)) in
    same_added c.add_annotations-in-Claims.result _ _ _ _ (sym (ap (λ (b : Spec). spec_quantifiers c.args.program.now b s) c.in-Claims.is ∙ claims_row c.args.program.now s c.in-Claims.c c.in-Claims.conjuncts)) (so_adds c.add_annotations-in-Claims.result _ _ _ _ _ one two)

pub add_annotation-returns-in_ok-bound-in-ForAll : goal.add_annotation-returns-in_ok-bound-in-ForAll
add_annotation-returns-in_ok-bound-in-ForAll t c = λ s h.
    let one = rw (c.deref-in-ForAll.ensures, c.deref-in-ForAll-2.ensures) at (c.in_ok-add_for_all-in-ForAll.ensures s h) in
    let there = scene_later one.later h in
    let two = rw c.deref-in-ForAll-3.ensures at (c.in_ok-add_annotation-in-ForAll.ensures s there) in
    let here = scene_later two.later there in
    let bound = same_ids c.deref-in-ForAll-4.ensures.value (c.in_ok-bound-in-ForAll.ensures.stands s here) in
    let inner = c.within-inner.ensures _ _ _ (scene_later c.in_ok-bound-in-ForAll.ensures.later here) bound in
    let three = rw c.deref-in-ForAll-5.ensures at (c.add_annotation-in-ForAll-2.ensures _ inner) in
    same_added c.add_annotation-in-ForAll-2.result _ _ _ _ (ap (λ (b : Spec). spec_quantifiers c.args.program.now b s) (sym c.in-ForAll.is)) (so_adds c.add_annotation-in-ForAll-2.result _ _ _ _ _ (to_graph _ (then_adds one two) c.in_ok-bound-in-ForAll.ensures.later) three)

pub add_annotation-returns-in_ok-bound-in-Exists : goal.add_annotation-returns-in_ok-bound-in-Exists
add_annotation-returns-in_ok-bound-in-Exists t c = λ s h.
    let one = rw (c.deref-in-Exists.ensures, c.deref-in-Exists-2.ensures.value) at (c.in_ok-add_exists-in-Exists.ensures s h) in
    let there = scene_later one.later h in
    let two = rw c.deref-in-Exists-3.ensures at (c.in_ok-add_annotation-in-Exists.ensures s there) in
    let here = scene_later two.later there in
    let bound = same_ids c.deref-in-Exists-4.ensures.value (c.in_ok-bound-in-Exists.ensures.stands s here) in
    let inner = c.within-inner-in-Exists.ensures _ _ _ (scene_later c.in_ok-bound-in-Exists.ensures.later here) bound in
    let three = rw c.deref-in-Exists-5.ensures.value at (c.add_annotations-in-Exists.ensures _ inner) in
    same_added c.add_annotations-in-Exists.result _ _ _ _ (sym (ap (λ (b : Spec). spec_quantifiers c.args.program.now b s) c.in-Exists.is ∙ exists_row c.args.program.now s c.in-Exists.n c.in-Exists.ty c.in-Exists.x c.in-Exists.conjuncts)) (so_adds c.add_annotations-in-Exists.result _ _ _ _ _ (to_graph _ (then_adds one two) c.in_ok-bound-in-Exists.ensures.later) three)

pub add_annotations-loop-e-init : goal.add_annotations-loop-e-init
add_annotations-loop-e-init t c = row_first (IsScene c.args.list.now.graph c.args.scene.now) (λ (s : Scene) (e : Spec). spec_quantifiers c.args.program.now e s) c.args.list.now c.args.es.now

pub add_annotations-loop-e-preserved : goal.add_annotations-loop-e-preserved
add_annotations-loop-e-preserved t c =
    row_next (IsScene c.args.list.now.graph c.args.scene.now) (λ (s : Scene) (e : Spec). spec_quantifiers c.args.program.now e s) c.args.list.now c.loop-e.list _ c.args.es.now c.loop-e.e-index c.e-item.result c.e-item.result c.loop-e.invariant c.loop-e-test.true c.e-item.is
    (λ s known later. c.in_ok-add_annotation.ensures s (scene_later later known))

pub add_annotations-returns : goal.add_annotations-returns
add_annotations-returns t c = λ s h. row_last c.loop-e.invariant c.loop-e-test.false s h
