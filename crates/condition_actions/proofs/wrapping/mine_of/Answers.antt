use Rattle.std.specs.Prelude.{List, Option, IfOk}
use Rattle.std.proofs.Common.{sym, subst}
use Rattle.method.specs.declared.program.Spec.{Spec}
use Rattle.method.specs.declared.program.StructInfo.{StructInfo}
use Rattle.conditions.specs.Code.{inv_scene}
use Rattle.conditions.specs.Actions.{mine_of, items_of}
use Rattle.condition_formulas.specs.Standing.{StandAll}
use Rattle.condition_actions.proofs.wrapping.mine_of.Goals as goal

pub returns-in_ok-words-in-Some-clause-stands : goal.returns-in_ok-words-in-Some-clause-stands
returns-in_ok-words-in-Some-clause-stands c = λ b x h hx hh.
    let p = c.args.program.now in
    let words = c.in_ok-words-in-Some.ensures.stands x h h hx hh hh in
    subst (λ (o : Option StructInfo). IfOk c.items_of.result (λ ids. StandAll c.items_of.new.graph ids.items (mine_of p b h x o))) (sym c.in-Some.ensures.some)
    (subst (λ (es : List Spec). IfOk c.items_of.result (λ ids. StandAll c.items_of.new.graph ids.items (items_of p b es (inv_scene x h h)))) c.deref.ensures.value (c.items_of.ensures.stands b (inv_scene x h h) words))
