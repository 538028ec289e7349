use Rattle.std.specs.Prelude.{◌≤◌, IfOk, length}
use Rattle.std.proofs.Common.{sym, subst, arith}
use Rattle.terms.specs.Formula.{Formula}
use Rattle.conditions.specs.Formulas.{null}
use Rattle.condition_formulas.specs.Standing.{StandsAs}
use Rattle.condition_formulas.proofs.Rows.{as_long}
use Rattle.annotation_scenes.proofs.Scenes.{tree_here, beyond}
use Rattle.annotation_scenes.proofs.quantifiers.part.Goals as goal

pub returns-then-place-parts-clause-stands : goal.returns-then-place-parts-clause-stands
returns-then-place-parts-clause-stands c = λ fs all.
    let late : length fs ≤ c.args.place = omega (arith, as_long all) in
    subst (λ (f : Formula). IfOk c.null.result (λ id. StandsAs c.null.new.graph id f)) (sym (beyond fs c.args.place null late)) c.null.ensures.stands

pub returns-clause-stands : goal.returns-clause-stands
returns-clause-stands c = λ fs all. tree_here c.args.place _ null all c.if-place-parts.false
