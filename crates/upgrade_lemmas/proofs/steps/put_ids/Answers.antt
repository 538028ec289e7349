use Rattle.std.proofs.Common.{ℕ, pos, Option, ◌+◌, ◌∷◌, [], ◌++◌, get_or, ap, sym, subst, refl, ◌∙◌}
use Rattle.upgrade_lemmas.specs.Making.{count_of, number_or}
use Rattle.upgrade_lemmas.proofs.StepNumbers.{Putting, put_next}
use Rattle.upgrade_lemmas.proofs.steps.put_ids.Goals as goal

pub loop-place-preserved : goal.loop-place-preserved
loop-place-preserved c =
    let z = get_or c.args.numbers.now c.loop-place.place (pos 0) in
    let before = c.loop-place.made.items in
    let after = c.put_id.new.made.items in
    let put = c.in_ok-put_id.ensures ∙ ap (λ (o : Option ℕ). before ++ number_or o z ∷ []) c.id_at-id.ensures in
    subst (λ n. Putting c.args.marks.now c.args.numbers.now c.args.ids.now c.args.made.now.items after (c.loop-place.place + 1) (c.loop-place.next + n)) (sym (c.count_of-next.ensures ∙ ap count_of c.id_at-id.ensures))
    (put_next c.args.marks.now c.args.numbers.now c.args.ids.now c.args.made.now.items before after c.loop-place.place c.loop-place.next z c.loop-place.invariant c.loop-place-test.true refl put)
