use Rattle.std.specs.Prelude.{Bool, IfOk}
use Rattle.std.proofs.Common.{sym, subst}
use Rattle.conditions.specs.Actions.{end_fact}
use Rattle.condition_formulas.specs.Standing.{StandsAs}
use Rattle.condition_formulas.proofs.Rows.{none, more, both, same_ids, all_later}
use Rattle.condition_branches.proofs.ends.end_fact.Goals as goal

pub returns-then-returns-clause-stands : goal.returns-then-returns-clause-stands
returns-then-returns-clause-stands c = λ b fs gs hb hf hg.
    subst (λ (r : Bool). IfOk c.falsehood.result (λ id. StandsAs c.falsehood.new.graph id (end_fact b r fs gs))) (sym c.if-returns.true) c.falsehood.ensures.stands

pub returns-clause-stands : goal.returns-clause-stands
returns-clause-stands c = λ b fs gs hb hf hg.
    let first = c.in_ok-facts.ensures.stands fs hf in
    let second = c.in_ok-equations.ensures.stands gs (all_later c.in_ok-facts.ensures.later hg) in
    let test = c.in_ok-equations.ensures.later _ _ (c.in_ok-facts.ensures.later _ _ hb) in
    let front = same_ids c.in_ok-all.ensures (both (more test none) (same_ids c.deref.ensures.value (all_later c.in_ok-equations.ensures.later first))) in
    let whole = c.all_of.ensures.stands _ (same_ids c.deref-3.ensures.value (same_ids c.in_ok-extend_from_slice.ensures.items (both front (same_ids c.deref-2.ensures.value second)))) in
    subst (λ (r : Bool). IfOk c.all_of.result (λ id. StandsAs c.all_of.new.graph id (end_fact b r fs gs))) (sym c.if-returns.false) whole
