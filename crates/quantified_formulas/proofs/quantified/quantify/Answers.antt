use Rattle.std.specs.Prelude.{◌≡◌, map, length}
use Rattle.std.proofs.Common.{refl, ap, subst, ◌∙◌}
use Rattle.conditions.specs.Annotations.{parts}
use Rattle.conditions.specs.Quantified.{places, renumber}
use Rattle.condition_formulas.specs.Standing.{StandsAs}
use Rattle.quantified_formulas.specs.Sorts.{scene_sorts, sort_at, without}
use Rattle.quantified_formulas.proofs.Sorting.{place_sorts}
use Rattle.quantified_formulas.proofs.quantified.quantify.Goals as goal

pub returns-clause-stands : goal.returns-clause-stands
returns-clause-stands c = λ s f h hf.
    let there : c.in_ok-places.places.items ≡ places s f =
    c.in_ok-places.ensures ∙ ap (λ n. without n c.deref.result.now) (c.part_count.ensures _ s h) ∙ ap (without (length (parts s))) (c.deref.ensures.value ∙ c.in_ok-numbers.ensures f hf) in
    let sorts : c.in_ok-arguments.arguments.items ≡ map (sort_at (scene_sorts c.args.scene.now)) (places s f) =
    c.in_ok-arguments.ensures ∙ ap (λ as'. map (sort_at as') c.deref-3.result.now) (c.deref-2.ensures.value ∙ c.in_ok-sorts.ensures) ∙ ap (map (sort_at (scene_sorts c.args.scene.now))) (c.deref-3.ensures.value ∙ there) in
    record {
      number_is = refl;
      sorts_are = sorts ∙ place_sorts (places s f) h;
      body_is = subst (λ ms. StandsAs c.renumbered.new.graph c.in_ok-body.body (renumber ms f)) (c.deref-4.ensures.value ∙ there) (c.in_ok-body.ensures.stands f hf);
    }
