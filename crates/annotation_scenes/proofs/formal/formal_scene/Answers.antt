use Rattle.std.specs.Prelude.{◌≡◌, ◌+◌, ℕ, length}
use Rattle.std.proofs.Common.{subst, ap, ◌∙◌}
use Rattle.conditions.specs.Annotations.{constants_like, references_like}
use Rattle.condition_formulas.specs.Standing.{StandAll}
use Rattle.condition_formulas.specs.Symbolics.{AreSymbolic}
use Rattle.condition_formulas.proofs.Rows.{all_later}
use Rattle.condition_formulas.proofs.Symbolics.{symbolic_later, are_later}
use Rattle.annotation_scenes.proofs.Scenes.{as_many}
use Rattle.annotation_scenes.proofs.Done.{then_later}
use Rattle.annotation_scenes.proofs.formal.formal_scene.Goals as goal

pub returns-clause-stands : goal.returns-clause-stands
returns-clause-stands c = λ s h.
    let up_bound = c.in_ok-bound.ensures.later in
    let up_entry = then_later c.in_ok-entry.ensures.later up_bound in
    let up_locals = then_later c.in_ok-locals.ensures.later up_entry in
    let up_subject = then_later c.in_ok-subject.ensures.later up_locals in
    let up_result = then_later c.in_ok-result.ensures.later up_subject in
    let up_this = then_later c.in_ok-this.ensures.later up_result in
    let up_me = then_later c.in_ok-me.ensures.later up_this in
    let up_before = then_later c.in_ok-before.ensures.later up_me in
    let to_this = then_later c.in_ok-after.ensures.later (then_later c.in_ok-before.ensures.later (then_later c.in_ok-me.ensures.later c.in_ok-this.ensures.later)) in
    let to_subject = then_later to_this (then_later c.in_ok-result.ensures.later c.in_ok-subject.ensures.later) in
    let to_locals = then_later to_subject c.in_ok-locals.ensures.later in
    let to_entry = then_later to_locals c.in_ok-entry.ensures.later in
    let first : 5 + length c.args.scene.now.locals.now ≡ 5 + length s.locals = ap (λ (n : ℕ). 5 + n) (as_many h.locals_are) in
    let second : 5 + length c.args.scene.now.locals.now + length c.args.scene.now.entry.now ≡ 5 + length s.locals + length s.entry =
    ap (λ (n : ℕ). n + length c.args.scene.now.entry.now) first ∙ ap (λ (n : ℕ). 5 + length s.locals + n) (as_many h.entry_is) in
    record {
      before_is = up_me _ _ c.in_ok-before.ensures.stands;
      after_is = up_before _ _ c.in_ok-after.ensures.stands;
      me_is = up_this _ _ c.in_ok-me.ensures.stands;
      this_is = up_result _ _ c.in_ok-this.ensures.stands;
      subject_is = up_locals _ _ c.in_ok-subject.ensures.stands;
      past_is = h.past_is;
      locals_are = are_later up_entry (c.in_ok-locals.ensures.stands _ (are_later to_subject h.locals_are));
      entry_is = subst (λ (n : ℕ). AreSymbolic c.references_like.new.graph c.in_ok-entry.entry.items (constants_like n s.entry)) first (are_later up_bound (c.in_ok-entry.ensures.stands _ (are_later to_locals h.entry_is)));
      result_is = symbolic_later up_subject (c.in_ok-result.ensures.stands _ (symbolic_later to_this h.result_is));
      bound_are = subst (λ (n : ℕ). StandAll c.references_like.new.graph c.in_ok-bound.bound.items (references_like n s.bound)) second (c.in_ok-bound.ensures.stands _ (all_later to_entry h.bound_are));
    }
