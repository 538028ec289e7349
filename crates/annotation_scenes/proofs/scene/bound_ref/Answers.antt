use Rattle.std.specs.Prelude.{◌≤◌, IfOk, length}
use Rattle.std.proofs.Common.{sym, subst, arith}
use Rattle.terms.specs.Formula.{Formula}
use Rattle.conditions.specs.Formulas.{null}
use Rattle.condition_formulas.specs.Standing.{StandsAs}
use Rattle.condition_formulas.proofs.Rows.{as_long}
use Rattle.annotation_scenes.proofs.Scenes.{tree_here, beyond}
use Rattle.annotation_scenes.proofs.scene.bound_ref.Goals as goal

pub returns-then-at-scene-clause-stands : goal.returns-then-at-scene-clause-stands
returns-then-at-scene-clause-stands c = λ s h.
    let late : length s.bound ≤ c.args.i = omega (arith, as_long h.bound_are) in
    subst (λ (f : Formula). IfOk c.null.result (λ id. StandsAs c.null.new.graph id f)) (sym (beyond s.bound c.args.i null late)) c.null.ensures.stands

pub returns-clause-stands : goal.returns-clause-stands
returns-clause-stands c = λ s h. tree_here c.args.i _ null h.bound_are c.if-at-scene.false
