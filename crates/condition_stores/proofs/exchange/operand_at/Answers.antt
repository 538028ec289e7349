use Rattle.std.specs.Prelude.{IfOk, length, ◌≤◌}
use Rattle.std.proofs.Common.{arith, subst, sym}
use Rattle.annotation_scenes.proofs.Scenes.{beyond, tree_here}
use Rattle.condition_formulas.proofs.Rows.{as_long}
use Rattle.condition_formulas.specs.Standing.{StandsAs}
use Rattle.conditions.specs.Formulas.{null}
use Rattle.terms.specs.Formula.{Formula}
use Rattle.condition_stores.proofs.exchange.operand_at.Goals as goal

pub returns-then-i-operands-clause-stands : goal.returns-then-i-operands-clause-stands
returns-then-i-operands-clause-stands c = λ xs all.
    let late : length xs ≤ c.args.i = omega (arith, as_long all) in
    subst (λ (f : Formula). IfOk c.null.result (λ id. StandsAs c.null.new.graph id f)) (sym (beyond xs c.args.i null late)) c.null.ensures.stands

pub returns-clause-stands : goal.returns-clause-stands
returns-clause-stands c = λ xs all. tree_here c.args.i _ null all c.if-i-operands.false
