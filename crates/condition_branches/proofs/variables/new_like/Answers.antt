use Rattle.std.specs.Prelude.{IfOk}
use Rattle.conditions.specs.Actions.{new_like}
use Rattle.conditions.specs.Symbolic.{Symbolic}
use Rattle.condition_formulas.proofs.Symbolics.{by_truth, by_number, by_reference}
use Rattle.condition_code.specs.States.{IsValueAndState}
use Rattle.condition_branches.proofs.variables.new_like.Goals as goal

pub returns-in-Truth-clause-stands : goal.returns-in-Truth-clause-stands
returns-in-Truth-clause-stands c = λ w s hw hs.
    by_truth (λ (u : Symbolic). IfOk c.new_integer.result (λ v. IsValueAndState c.new_integer.new.graph v (new_like u s))) c.in-Truth.is (λ f is. c.new_integer.ensures.stands s hs) w hw

pub returns-in-Number-clause-stands : goal.returns-in-Number-clause-stands
returns-in-Number-clause-stands c = λ w s hw hs.
    by_number (λ (u : Symbolic). IfOk c.new_integer-in-Number.result (λ v. IsValueAndState c.new_integer-in-Number.new.graph v (new_like u s))) c.in-Number.is (λ f is. c.new_integer-in-Number.ensures.stands s hs) w hw

pub returns-in-Reference-clause-stands : goal.returns-in-Reference-clause-stands
returns-in-Reference-clause-stands c = λ w s hw hs.
    by_reference (λ (u : Symbolic). IfOk c.new_reference.result (λ v. IsValueAndState c.new_reference.new.graph v (new_like u s))) c.in-Reference.is (λ f is. c.new_reference.ensures.stands s hs) w hw
