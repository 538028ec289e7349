use Rattle.std.specs.Prelude.{◌≡◌}
use Rattle.std.proofs.Common.{ap, sym, subst, ◌∙◌}
use Rattle.conditions.specs.Quantified.{program_quantifiers}
use Rattle.condition_meaning.specs.Languages.{number_bound, formulas_from, quantifiers_of}
use Rattle.condition_formulas.proofs.Rows.{all_later}
use Rattle.annotation_scenes.proofs.Done.{then_later}
use Rattle.program_quantifiers.specs.Quantifiers.{AreQuantified}
use Rattle.program_language.specs.Numbered.{bound_of, AreBodies}
use Rattle.program_language.proofs.Finding.{bound_is}
use Rattle.program_language.proofs.language.program_language.Goals as goal

pub returns : goal.returns
unfolding quantifiers_of
returns c =
    let qs = program_quantifiers c.args.program.now in
    let are = c.in_ok-list.ensures in
    let count : c.number_bound-count.result ≡ number_bound qs = c.number_bound-count.ensures ∙ ap bound_of c.deref.ensures.value ∙ bound_is are in
    let made = c.in_ok-quantified.ensures.stands qs (subst (λ cs. AreQuantified c.in_ok-list.list.graph cs qs) (sym c.deref-2.ensures.value) are) in
    let all = subst (λ n. AreBodies c.bodies_below.new.graph c.in_ok-quantified.quantified.holes.items c.in_ok-quantified.quantified.bodies.items (formulas_from qs 0 n)) count made in
    record {
      columns = c.in_ok-columns.ensures;
      holes = all.holes_are;
      bodies = all_later (then_later c.in_ok-invariants.ensures.later c.in_ok-conjuncts.ensures.later) all.bodies_are;
      invariants = all_later c.in_ok-conjuncts.ensures.later c.in_ok-invariants.ensures.stands;
      conjuncts = c.in_ok-conjuncts.ensures.stands;
    }
