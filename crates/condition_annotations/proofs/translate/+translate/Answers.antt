use Rattle.std.specs.Prelude.{List, ◌++◌, drop, length}
use Rattle.std.proofs.Common.{sym, subst}
use Rattle.conditions.specs.Symbolic.{term}
use Rattle.conditions.specs.Annotations.{translate, formula}
use Rattle.condition_formulas.specs.declared.symbolic.Symbolic.{Symbolic}
use Rattle.condition_formulas.specs.Symbolics.{AreSymbolic}
use Rattle.condition_formulas.proofs.Rows.{none, more, both, then_one, all_later, same_ids}
use Rattle.condition_formulas.proofs.Symbolics.{is_truth, is_reference, symbolic_later}
use Rattle.annotation_scenes.specs.Scenes.{IsScene}
use Rattle.annotation_scenes.proofs.Scenes.{scene_later}
use Rattle.annotation_scenes.proofs.Done.{then_later}
use Rattle.condition_annotations.proofs.Mapped.{mapped_next, earlier}
use Rattle.condition_annotations.proofs.Rows.{claims_row, claims_only_row, exists_row}
use Rattle.condition_annotations.proofs.translate.+translate.Goals as goal

pub translate-returns-in-Number-clause-stands : goal.translate-returns-in-Number-clause-stands
translate-returns-in-Number-clause-stands t c =
    λ s h. rw c.in-Number.is c.literal.ensures.stands

pub translate-returns-in_ok-id-in-Truth-clause-stands : goal.translate-returns-in_ok-id-in-Truth-clause-stands
translate-returns-in_ok-id-in-Truth-clause-stands t c =
    λ s h. rw c.in-Truth.is (is_truth c.in_ok-id-in-Truth.ensures.stands)

pub translate-returns-in_ok-id-in-Null-clause-stands : goal.translate-returns-in_ok-id-in-Null-clause-stands
translate-returns-in_ok-id-in-Null-clause-stands t c =
    λ s h. rw c.in-Null.is (is_reference c.in_ok-id-in-Null.ensures.stands)

pub translate-returns-in-Variable-clause-stands : goal.translate-returns-in-Variable-clause-stands
translate-returns-in-Variable-clause-stands t c =
    λ s h. rw c.in-Variable.is (c.variable.ensures.stands s h)

pub translate-returns-in_ok-id-in-Bound-clause-stands : goal.translate-returns-in_ok-id-in-Bound-clause-stands
translate-returns-in_ok-id-in-Bound-clause-stands t c =
    λ s h. rw c.in-Bound.is (is_reference (c.in_ok-id-in-Bound.ensures.stands s h))

pub translate-returns-in-This-clause-stands : goal.translate-returns-in-This-clause-stands
translate-returns-in-This-clause-stands t c =
    λ s h. rw c.in-This.is (is_reference h.this_is)

pub translate-returns-in-Me-clause-stands : goal.translate-returns-in-Me-clause-stands
translate-returns-in-Me-clause-stands t c =
    λ s h. rw c.in-Me.is (is_reference h.me_is)

pub translate-returns-in-Result-clause-stands : goal.translate-returns-in-Result-clause-stands
translate-returns-in-Result-clause-stands t c =
    λ s h. rw c.in-Result.is h.result_is

pub translate-returns-in_ok-o-in-Field-clause-stands : goal.translate-returns-in_ok-o-in-Field-clause-stands
translate-returns-in_ok-o-in-Field-clause-stands t c =
    λ s h. rw c.in-Field.is (rw c.deref.ensures at (c.field_value.ensures.stands _ _ (scene_later c.in_ok-o-in-Field.ensures.later h) (c.in_ok-o-in-Field.ensures.stands s h)))

pub translate-returns-in_ok-o-in-Closed-clause-stands : goal.translate-returns-in_ok-o-in-Closed-clause-stands
translate-returns-in_ok-o-in-Closed-clause-stands t c =
    λ s h. rw c.in-Closed.is (rw c.deref-in-Closed.ensures at (c.is_closed.ensures.stands _ _ (scene_later c.in_ok-o-in-Closed.ensures.later h) (c.in_ok-o-in-Closed.ensures.stands s h)))

pub translate-returns-in_ok-o-in-Owner-clause-stands : goal.translate-returns-in_ok-o-in-Owner-clause-stands
translate-returns-in_ok-o-in-Owner-clause-stands t c =
    λ s h. rw c.in-Owner.is (rw c.deref-in-Owner.ensures at (c.owner_of.ensures.stands _ _ (scene_later c.in_ok-o-in-Owner.ensures.later h) (c.in_ok-o-in-Owner.ensures.stands s h)))

pub translate-returns-in_ok-o-in-ClaimCount-clause-stands : goal.translate-returns-in_ok-o-in-ClaimCount-clause-stands
translate-returns-in_ok-o-in-ClaimCount-clause-stands t c =
    λ s h. rw c.in-ClaimCount.is (rw c.deref-in-ClaimCount.ensures at (c.claim_count.ensures.stands _ _ (scene_later c.in_ok-o-in-ClaimCount.ensures.later h) (c.in_ok-o-in-ClaimCount.ensures.stands s h)))

pub translate-returns-in_ok-o-in-Not-clause-stands : goal.translate-returns-in_ok-o-in-Not-clause-stands
translate-returns-in_ok-o-in-Not-clause-stands t c =
    λ s h. rw c.in-Not.is (rw c.deref-in-Not.ensures at (c.negation.ensures.stands _ (c.in_ok-o-in-Not.ensures.stands s h)))

pub translate-returns-in_ok-o-in-Negate-clause-stands : goal.translate-returns-in_ok-o-in-Negate-clause-stands
translate-returns-in_ok-o-in-Negate-clause-stands t c =
    λ s h. rw c.in-Negate.is (rw c.deref-in-Negate.ensures at (c.opposite.ensures.stands _ (c.in_ok-o-in-Negate.ensures.stands s h)))

pub translate-returns-in_ok-o-in-Wrapped-clause-stands : goal.translate-returns-in_ok-o-in-Wrapped-clause-stands
translate-returns-in_ok-o-in-Wrapped-clause-stands t c =
    λ s h. rw c.in-Wrapped.is (rw c.deref-in-Wrapped.ensures at (c.is_wrapped.ensures.stands _ _ (scene_later c.in_ok-o-in-Wrapped.ensures.later h) (c.in_ok-o-in-Wrapped.ensures.stands s h)))

pub translate-returns-in_ok-o-in-Wrapped0-clause-stands : goal.translate-returns-in_ok-o-in-Wrapped0-clause-stands
translate-returns-in_ok-o-in-Wrapped0-clause-stands t c =
    λ s h. rw c.in-Wrapped0.is (rw c.deref-in-Wrapped0.ensures at (c.is_wrapped0.ensures.stands _ _ (scene_later c.in_ok-o-in-Wrapped0.ensures.later h) (c.in_ok-o-in-Wrapped0.ensures.stands s h)))

pub translate-returns-in_ok-o-in-Mutable-clause-stands : goal.translate-returns-in_ok-o-in-Mutable-clause-stands
translate-returns-in_ok-o-in-Mutable-clause-stands t c =
    λ s h. rw c.in-Mutable.is (rw c.deref-in-Mutable.ensures at (c.is_mutable.ensures.stands _ _ (scene_later c.in_ok-o-in-Mutable.ensures.later h) (c.in_ok-o-in-Mutable.ensures.stands s h)))

pub translate-returns-in_ok-o-in-Fresh-clause-stands : goal.translate-returns-in_ok-o-in-Fresh-clause-stands
translate-returns-in_ok-o-in-Fresh-clause-stands t c =
    λ s h. rw c.in-Fresh.is (rw c.deref-in-Fresh.ensures at (c.is_fresh.ensures.stands _ _ (scene_later c.in_ok-o-in-Fresh.ensures.later h) (c.in_ok-o-in-Fresh.ensures.stands s h)))

pub translate-returns-in_ok-o-in-Lists-clause-stands : goal.translate-returns-in_ok-o-in-Lists-clause-stands
translate-returns-in_ok-o-in-Lists-clause-stands t c =
    λ s h. rw c.in-Lists.is (rw c.deref-in-Lists.ensures at (c.is_listed.ensures.stands _ _ (scene_later c.in_ok-o-in-Lists.ensures.later h) (c.in_ok-o-in-Lists.ensures.stands s h)))

pub translate-returns-in_ok-right-in-Member-clause-stands : goal.translate-returns-in_ok-right-in-Member-clause-stands
translate-returns-in_ok-right-in-Member-clause-stands t c =
    λ s h. rw c.in-Member.is (rw (c.deref-in-Member.ensures, c.deref-in-Member-2.ensures) at (c.is_member.ensures.stands _ _ _ (scene_later c.in_ok-right-in-Member.ensures.later (scene_later c.in_ok-left-in-Member.ensures.later h)) (symbolic_later c.in_ok-right-in-Member.ensures.later (c.in_ok-left-in-Member.ensures.stands s h)) (c.in_ok-right-in-Member.ensures.stands s (scene_later c.in_ok-left-in-Member.ensures.later h))))

pub translate-returns-in_ok-right-in-Arithmetic-clause-stands : goal.translate-returns-in_ok-right-in-Arithmetic-clause-stands
translate-returns-in_ok-right-in-Arithmetic-clause-stands t c =
    λ s h. rw c.in-Arithmetic.is (rw (c.deref-in-Arithmetic.ensures, c.deref-in-Arithmetic-2.ensures) at (c.arithmetic.ensures.stands _ _ (symbolic_later c.in_ok-right-in-Arithmetic.ensures.later (c.in_ok-left-in-Arithmetic.ensures.stands s h)) (c.in_ok-right-in-Arithmetic.ensures.stands s (scene_later c.in_ok-left-in-Arithmetic.ensures.later h))))

pub translate-returns-in_ok-right-in-Compare-clause-stands : goal.translate-returns-in_ok-right-in-Compare-clause-stands
translate-returns-in_ok-right-in-Compare-clause-stands t c =
    λ s h. rw c.in-Compare.is (rw (c.deref-in-Compare.ensures, c.deref-in-Compare-2.ensures) at (c.comparison.ensures.stands _ _ (symbolic_later c.in_ok-right-in-Compare.ensures.later (c.in_ok-left-in-Compare.ensures.stands s h)) (c.in_ok-right-in-Compare.ensures.stands s (scene_later c.in_ok-left-in-Compare.ensures.later h))))

pub translate-returns-in_ok-right-in-And-clause-stands : goal.translate-returns-in_ok-right-in-And-clause-stands
translate-returns-in_ok-right-in-And-clause-stands t c =
    λ s h. rw c.in-And.is (rw (c.deref-in-And.ensures, c.deref-in-And-2.ensures) at (c.conjunction.ensures.stands _ _ (symbolic_later c.in_ok-right-in-And.ensures.later (c.in_ok-left-in-And.ensures.stands s h)) (c.in_ok-right-in-And.ensures.stands s (scene_later c.in_ok-left-in-And.ensures.later h))))

pub translate-returns-in_ok-right-in-Or-clause-stands : goal.translate-returns-in_ok-right-in-Or-clause-stands
translate-returns-in_ok-right-in-Or-clause-stands t c =
    λ s h. rw c.in-Or.is (rw (c.deref-in-Or.ensures, c.deref-in-Or-2.ensures) at (c.disjunction.ensures.stands _ _ (symbolic_later c.in_ok-right-in-Or.ensures.later (c.in_ok-left-in-Or.ensures.stands s h)) (c.in_ok-right-in-Or.ensures.stands s (scene_later c.in_ok-left-in-Or.ensures.later h))))

pub translate-returns-in_ok-right-in-Implies-clause-stands : goal.translate-returns-in_ok-right-in-Implies-clause-stands
translate-returns-in_ok-right-in-Implies-clause-stands t c =
    λ s h. rw c.in-Implies.is (rw (c.deref-in-Implies.ensures, c.deref-in-Implies-2.ensures) at (c.implication.ensures.stands _ _ (symbolic_later c.in_ok-right-in-Implies.ensures.later (c.in_ok-left-in-Implies.ensures.stands s h)) (c.in_ok-right-in-Implies.ensures.stands s (scene_later c.in_ok-left-in-Implies.ensures.later h))))

pub translate-returns-in_ok-right-in-Iff-clause-stands : goal.translate-returns-in_ok-right-in-Iff-clause-stands
translate-returns-in_ok-right-in-Iff-clause-stands t c =
    λ s h. rw c.in-Iff.is (rw (c.deref-in-Iff.ensures, c.deref-in-Iff-2.ensures) at (c.equivalence.ensures.stands _ _ (symbolic_later c.in_ok-right-in-Iff.ensures.later (c.in_ok-left-in-Iff.ensures.stands s h)) (c.in_ok-right-in-Iff.ensures.stands s (scene_later c.in_ok-left-in-Iff.ensures.later h))))

pub translate-returns-in_ok-right-in-ClaimsObject-clause-stands : goal.translate-returns-in_ok-right-in-ClaimsObject-clause-stands
translate-returns-in_ok-right-in-ClaimsObject-clause-stands t c =
    λ s h. rw c.in-ClaimsObject.is (rw (c.deref-in-ClaimsObject.ensures, c.deref-in-ClaimsObject-2.ensures) at (c.claims_object.ensures.stands _ _ _ (scene_later c.in_ok-right-in-ClaimsObject.ensures.later (scene_later c.in_ok-left-in-ClaimsObject.ensures.later h)) (symbolic_later c.in_ok-right-in-ClaimsObject.ensures.later (c.in_ok-left-in-ClaimsObject.ensures.stands s h)) (c.in_ok-right-in-ClaimsObject.ensures.stands s (scene_later c.in_ok-left-in-ClaimsObject.ensures.later h))))

pub translate-returns-in_ok-second-in-Choose-clause-stands : goal.translate-returns-in_ok-second-in-Choose-clause-stands
translate-returns-in_ok-second-in-Choose-clause-stands t c =
    λ s h.
    let holds = rw c.deref-in-Choose.ensures at (c.in_ok-test-in-Choose.ensures.stands s h) in
    let first = rw c.deref-in-Choose-2.ensures at (c.in_ok-first-in-Choose.ensures.stands s (scene_later c.in_ok-test-in-Choose.ensures.later h)) in
    let second = rw c.deref-in-Choose-3.ensures at (c.in_ok-second-in-Choose.ensures.stands s (scene_later c.in_ok-first-in-Choose.ensures.later (scene_later c.in_ok-test-in-Choose.ensures.later h))) in
    rw c.in-Choose.is (c.choice.ensures.stands _ _ _ (symbolic_later c.in_ok-second-in-Choose.ensures.later (symbolic_later c.in_ok-first-in-Choose.ensures.later holds)) (symbolic_later c.in_ok-second-in-Choose.ensures.later first) second)

pub translate-returns-in-Old-clause-stands : goal.translate-returns-in-Old-clause-stands
translate-returns-in-Old-clause-stands t c =
    λ s h. rw c.in-Old.is (rw c.deref-in-Old.ensures at (c.translate-in-Old.ensures.stands _ (c.old.ensures _ _ h)))

pub translate-returns-in_ok-now-in-Unchanged-clause-stands : goal.translate-returns-in_ok-now-in-Unchanged-clause-stands
translate-returns-in_ok-now-in-Unchanged-clause-stands t c =
    λ s h.
    let locals = earlier c.in_ok-locals-in-Unchanged.ensures h.entry_is h.locals_are in
    let lent = subst (λ (vs : List Symbolic). AreSymbolic c.args.graph.now vs (s.entry ++ drop (length s.entry) s.locals)) (sym c.deref-in-Unchanged-2.ensures.value) locals in
    let before = c.in_ok-earlier-in-Unchanged.ensures.stands _ (c.as_present.ensures _ _ _ h lent) in
    let now = c.in_ok-now-in-Unchanged.ensures.stands s (scene_later c.in_ok-earlier-in-Unchanged.ensures.later h) in
    rw c.in-Unchanged.is (rw (c.deref-in-Unchanged.ensures, c.deref-in-Unchanged-3.ensures) at (c.equality.ensures.stands _ _ (symbolic_later c.in_ok-now-in-Unchanged.ensures.later before) now))

pub translate-returns-in_ok-claim-in-ClaimsOnly-clause-stands : goal.translate-returns-in_ok-claim-in-ClaimsOnly-clause-stands
translate-returns-in_ok-claim-in-ClaimsOnly-clause-stands t c =
    λ s h.
    let words = c.scene-words.ensures _ _ (c.in_ok-formal-in-ClaimsOnly.ensures.stands s h) in
    let about = rw c.deref-in-ClaimsOnly.ensures at (c.in_ok-about-in-ClaimsOnly.ensures.stands _ words) in
    let then = scene_later c.in_ok-about-in-ClaimsOnly.ensures.later (scene_later c.in_ok-formal-in-ClaimsOnly.ensures.later h) in
    let claim = rw c.deref-in-ClaimsOnly-2.ensures at (c.in_ok-claim-in-ClaimsOnly.ensures.stands s then) in
    let formal = scene_later c.in_ok-claim-in-ClaimsOnly.ensures.later (scene_later c.in_ok-about-in-ClaimsOnly.ensures.later (c.in_ok-formal-in-ClaimsOnly.ensures.stands s h)) in
    let made = rw c.deref-in-ClaimsOnly-3.ensures.value at (c.claims_only.ensures.stands _ _ _ (scene_later c.in_ok-claim-in-ClaimsOnly.ensures.later then) formal claim (symbolic_later c.in_ok-claim-in-ClaimsOnly.ensures.later about)) in
    rw (c.in-ClaimsOnly.is, claims_only_row c.args.program.now s c.in-ClaimsOnly.n c.in-ClaimsOnly.c c.in-ClaimsOnly.objects) made

pub translate-returns-in_ok-claim-in-Claims-clause-stands : goal.translate-returns-in_ok-claim-in-Claims-clause-stands
translate-returns-in_ok-claim-in-Claims-clause-stands t c =
    λ s h.
    let claim = rw c.deref-in-Claims.ensures at (c.in_ok-claim-in-Claims.ensures.stands s h) in
    let made = rw c.deref-in-Claims-2.ensures.value at (c.claims.ensures.stands _ _ (scene_later c.in_ok-claim-in-Claims.ensures.later h) claim) in
    rw (c.in-Claims.is, claims_row c.args.program.now s c.in-Claims.c c.in-Claims.conjuncts) made

pub translate-returns-in-Has-clause-stands : goal.translate-returns-in-Has-clause-stands
translate-returns-in-Has-clause-stands t c =
    λ s h. rw c.in-Has.is (c.has.ensures.stands s h)

pub translate-returns-in_ok-owner-in-ForAll-clause-stands : goal.translate-returns-in_ok-owner-in-ForAll-clause-stands
translate-returns-in_ok-owner-in-ForAll-clause-stands t c =
    λ s h.
    let words = c.scene-words-in-ForAll.ensures _ _ (c.in_ok-formal-in-ForAll.ensures.stands s h) in
    let owner = rw c.deref-in-ForAll.ensures at (c.in_ok-owner-in-ForAll.ensures.stands _ words) in
    let then = scene_later c.in_ok-owner-in-ForAll.ensures.later (scene_later c.in_ok-formal-in-ForAll.ensures.later h) in
    let formal = scene_later c.in_ok-owner-in-ForAll.ensures.later (c.in_ok-formal-in-ForAll.ensures.stands s h) in
    rw c.in-ForAll.is (rw c.deref-in-ForAll-2.ensures at (c.for_all.ensures.stands _ _ then formal owner))

pub translate-returns-in_ok-owner-in-Exists-clause-stands : goal.translate-returns-in_ok-owner-in-Exists-clause-stands
translate-returns-in_ok-owner-in-Exists-clause-stands t c =
    λ s h.
    let words = c.scene-words-in-Exists.ensures _ _ (c.in_ok-formal-in-Exists.ensures.stands s h) in
    let owner = rw c.deref-in-Exists.ensures at (c.in_ok-owner-in-Exists.ensures.stands _ words) in
    let then = scene_later c.in_ok-owner-in-Exists.ensures.later (scene_later c.in_ok-formal-in-Exists.ensures.later h) in
    let formal = scene_later c.in_ok-owner-in-Exists.ensures.later (c.in_ok-formal-in-Exists.ensures.stands s h) in
    let made = rw c.deref-in-Exists-2.ensures.value at (c.exists.ensures.stands _ _ then formal owner) in
    rw (c.in-Exists.is, exists_row c.args.program.now s c.in-Exists.n c.in-Exists.ty c.in-Exists.e c.in-Exists.conjuncts) made

pub tests-loop-e-preserved : goal.tests-loop-e-preserved
tests-loop-e-preserved t c =
    mapped_next (IsScene c.args.graph.now c.args.scene.now) (λ s e. formula c.args.program.now e s) c.args.graph.now c.loop-e.graph c.test.new.graph c.args.es.now c.loop-e.all.items c.push.new.self.items c.loop-e.e-index c.in_ok-id.id c.e-item.result c.e-item.result c.loop-e.invariant c.loop-e-test.true c.e-item.is (then_later c.in_ok-value.ensures.later c.in_ok-id.ensures.later)
    (λ s known. c.in_ok-id.ensures.stands _ (c.in_ok-value.ensures.stands s (scene_later c.loop-e.invariant.later known))) c.in_ok-push.ensures.items

pub terms_of-loop-e-preserved : goal.terms_of-loop-e-preserved
terms_of-loop-e-preserved t c =
    mapped_next (IsScene c.args.graph.now c.args.scene.now) (λ s e. term (translate c.args.program.now e s)) c.args.graph.now c.loop-e.graph c.term.new.graph c.args.es.now c.loop-e.all.items c.push.new.self.items c.loop-e.e-index c.in_ok-id.id c.e-item.result c.e-item.result c.loop-e.invariant c.loop-e-test.true c.e-item.is (then_later c.in_ok-value.ensures.later c.in_ok-id.ensures.later)
    (λ s known. c.in_ok-id.ensures.stands _ (c.in_ok-value.ensures.stands s (scene_later c.loop-e.invariant.later known))) c.in_ok-push.ensures.items

pub claims-returns-clause-stands : goal.claims-returns-clause-stands
claims-returns-clause-stands t c =
    λ s v h hv.
    let subject = c.in_ok-subject.ensures.stands _ hv in
    let about = c.about.ensures _ _ _ (scene_later c.in_ok-subject.ensures.later h) subject in
    is_truth (c.in_ok-id.ensures.stands _ (same_ids c.deref.ensures.value (c.in_ok-all.ensures.stands _ about)))

pub for_all-returns-clause-stands : goal.for_all-returns-clause-stands
for_all-returns-clause-stands t c =
    λ s v h formal hv.
    let words = scene_later c.in_ok-member.ensures.later (c.scene-words.ensures _ _ formal) in
    let member = c.in_ok-member.ensures.stands s h in
    let bound = same_ids c.in_ok-bound.ensures (both (more member none) words.bound_are) in
    let inner = c.within-inner.ensures _ _ _ words (same_ids c.deref.ensures.value bound) in
    let passes = c.in_ok-passes.ensures.stands _ inner in
    let heap = c.in_ok-passes.ensures.later _ _ (c.heap-heap.ensures _ _ words) in
    let owner = symbolic_later c.in_ok-passes.ensures.later (symbolic_later c.in_ok-member.ensures.later hv) in
    let whole = c.in_ok-whole.ensures.stands _ _ _ _ heap owner (c.in_ok-passes.ensures.later _ _ member) passes in
    let back = scene_later c.in_ok-whole.ensures.later (scene_later c.in_ok-passes.ensures.later (scene_later c.in_ok-member.ensures.later h)) in
    is_truth (c.in_ok-id.ensures.stands _ _ back whole)

pub exists-returns-clause-stands : goal.exists-returns-clause-stands
exists-returns-clause-stands t c =
    λ s v h formal hv.
    let words = scene_later c.in_ok-member.ensures.later (c.scene-words.ensures _ _ formal) in
    let member = c.in_ok-member.ensures.stands s h in
    let bound = same_ids c.in_ok-bound.ensures (both (more member none) words.bound_are) in
    let inner = c.within-inner.ensures _ _ _ words (same_ids c.deref.ensures.value bound) in
    let pass = same_ids c.deref-2.ensures.value (c.in_ok-pass.ensures.stands _ inner) in
    let heap = c.in_ok-pass.ensures.later _ _ (c.heap-heap.ensures _ _ words) in
    let owner = symbolic_later c.in_ok-pass.ensures.later (symbolic_later c.in_ok-member.ensures.later hv) in
    let whole = c.in_ok-whole.ensures.stands _ _ _ _ heap owner (c.in_ok-pass.ensures.later _ _ member) pass in
    let back = scene_later c.in_ok-whole.ensures.later (scene_later c.in_ok-pass.ensures.later (scene_later c.in_ok-member.ensures.later h)) in
    is_truth (c.in_ok-id.ensures.stands _ (c.in_ok-all.ensures.stands _ _ back whole))

pub lists_no_others-returns-clause-stands : goal.lists_no_others-returns-clause-stands
lists_no_others-returns-clause-stands t c =
    λ s w h formal hw.
    let words = scene_later c.in_ok-member.ensures.later (c.scene-words.ensures _ _ formal) in
    let member = c.in_ok-member.ensures.stands s h in
    let ids = same_ids c.deref.ensures.value (c.in_ok-ids.ensures.stands _ words) in
    let heap = c.in_ok-ids.ensures.later _ _ (c.heap-heap.ensures _ _ words) in
    let about = symbolic_later c.in_ok-ids.ensures.later (symbolic_later c.in_ok-member.ensures.later hw) in
    let whole = c.in_ok-whole.ensures.stands _ _ _ _ heap about (c.in_ok-ids.ensures.later _ _ member) ids in
    let back = scene_later c.in_ok-whole.ensures.later (scene_later c.in_ok-ids.ensures.later (scene_later c.in_ok-member.ensures.later h)) in
    c.quantifier.ensures.stands _ _ back whole

pub claims_only-returns-clause-stands : goal.claims_only-returns-clause-stands
claims_only-returns-clause-stands t c =
    λ s v w h formal hv hw.
    let subject = c.in_ok-subject.ensures.stands _ hv in
    let scene = scene_later c.in_ok-subject.ensures.later h in
    let ids = c.in_ok-ids.ensures.stands s scene in
    let scene_then = scene_later c.in_ok-ids.ensures.later scene in
    let all = c.in_ok-all.ensures.stands _ _ _ (c.heap.ensures _ _ scene_then) (c.in_ok-ids.ensures.later _ _ subject) (same_ids c.deref.ensures.value ids) in
    let formal_then = scene_later c.in_ok-all.ensures.later (scene_later c.in_ok-ids.ensures.later (scene_later c.in_ok-subject.ensures.later formal)) in
    let about = symbolic_later c.in_ok-all.ensures.later (symbolic_later c.in_ok-ids.ensures.later (symbolic_later c.in_ok-subject.ensures.later hw)) in
    let no_others = c.in_ok-no_others.ensures.stands _ _ (scene_later c.in_ok-all.ensures.later scene_then) formal_then about in
    let whole = same_ids c.in_ok-push.ensures.items (then_one (all_later c.in_ok-no_others.ensures.later all) no_others) in
    is_truth (c.in_ok-id.ensures.stands _ (same_ids c.deref-2.ensures.value whole))
