use Rattle.std.specs.Prelude.{IfOk}
use Rattle.conditions.specs.Symbolic.{test}
use Rattle.condition_formulas.specs.Standing.{StandsAs}
use Rattle.condition_formulas.proofs.Symbolics.{by_number, by_reference}
use Rattle.condition_formulas.proofs.symbolic.test.Goals as goal

pub returns-in_ok-none-in-Number-clause-stands : goal.returns-in_ok-none-in-Number-clause-stands
returns-in_ok-none-in-Number-clause-stands c =
    by_number (λ u. IfOk c.not.result (λ id. StandsAs c.not.new.graph id (test u))) c.in-Number.is
    (λ f h. c.not.ensures.stands _ (c.in_ok-none-in-Number.ensures.stands _ _ (c.in_ok-zero-in-Number.ensures.later _ _ h) c.in_ok-zero-in-Number.ensures.stands))

pub returns-in_ok-none-in-Reference-clause-stands : goal.returns-in_ok-none-in-Reference-clause-stands
returns-in_ok-none-in-Reference-clause-stands c =
    by_reference (λ u. IfOk c.not-in-Reference.result (λ id. StandsAs c.not-in-Reference.new.graph id (test u))) c.in-Reference.is
    (λ f h. c.not-in-Reference.ensures.stands _ (c.in_ok-none-in-Reference.ensures.stands _ _ (c.in_ok-nothing-in-Reference.ensures.later _ _ h) c.in_ok-nothing-in-Reference.ensures.stands))
