use Rattle.std.proofs.Common.{refl, subst, sym, eq-eqb, ◌∙◌}
use Rattle.std.proofs.lemmas.Bool.{ne_eqb}
use Rattle.std.specs.Prelude.{Option}
use Rattle.conditions.specs.Quantified.{QuantifiedFormula}
use Rattle.condition_meaning.specs.Languages.{formula_of}
use Rattle.program_language.specs.Numbered.{IsBody}
use Rattle.program_language.proofs.Finding.{at, found_here, found_later, found_nowhere, body_found}
use Rattle.program_language.proofs.numbered.body_at.Goals as goal

pub loop-formula-init : goal.loop-formula-init
loop-formula-init c = λ qs are. refl

pub loop-formula-preserved : goal.loop-formula-preserved
loop-formula-preserved c = λ qs are.
    found_later c.args.number (at c.loop-formula.formula-index c.formula-item.result c.formula-item.result are c.loop-formula-test.true c.formula-item.is) (ne_eqb _ _ c.if-own-number.false) (c.loop-formula.invariant qs are)

pub returns-then-own-number-clause-stands : goal.returns-then-own-number-clause-stands
returns-then-own-number-clause-stands c = λ qs are.
    let here = at c.loop-formula.formula-index c.formula-item.result c.formula-item.result are c.loop-formula-test.true c.formula-item.is in
    body_found c.body_of.result c.args.number here (found_here c.args.number here (eq-eqb _ _ c.if-own-number.true) (c.loop-formula.invariant qs are)) c.body_of.ensures.holes c.body_of.ensures.body

pub returns-clause-stands : goal.returns-clause-stands
returns-clause-stands c = λ qs are.
    let nowhere = found_nowhere c.loop-formula.formula-index c.args.number are c.loop-formula-test.false (c.loop-formula.invariant qs are) in
    subst (λ (o : Option QuantifiedFormula). IsBody c.truth.new.graph (record { holes = c.new-holes.result; body = c.in_ok-body.body }) (formula_of o)) (sym nowhere) (record { holes_are = c.new-holes.ensures ∙ c.new-sorts.ensures.items; body_is = c.in_ok-body.ensures.stands })
