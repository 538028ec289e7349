use Rattle.std.specs.Prelude.{Option, Some, slice_get, IfOk}
use Rattle.std.proofs.Common.{sym, ap, subst, ◌∙◌}
use Rattle.method.specs.declared.program.Shape.{Shape}
use Rattle.conditions.specs.Annotations.{shape_formula}
use Rattle.condition_formulas.specs.Standing.{StandsAs}
use Rattle.condition_code.proofs.States.{same_values}
use Rattle.condition_scenes.proofs.conjuncts.entry_formula.Goals as goal

pub returns-in-Some-clause-stands : goal.returns-in-Some-clause-stands
returns-in-Some-clause-stands c = λ h e hh he.
    let there = ap (slice_get c.args.program.now.shapes.items) (sym he.shape_is) ∙ c.in-Some.ensures.some in
    subst (λ (o : Option Shape). IfOk c.shape_formula.result (λ id. StandsAs c.shape_formula.new.graph id (shape_formula c.args.program.now o h e.values))) (sym there) (c.shape_formula.ensures.stands h e.values hh (same_values c.deref.ensures.value he.values_are))

pub returns-in-None-clause-stands : goal.returns-in-None-clause-stands
returns-in-None-clause-stands c = λ h e hh he.
    let there = ap (slice_get c.args.program.now.shapes.items) (sym he.shape_is) ∙ c.in-None.ensures.none in
    subst (λ (o : Option Shape). IfOk c.truth.result (λ id. StandsAs c.truth.new.graph id (shape_formula c.args.program.now o h e.values))) (sym there) c.truth.ensures.stands
