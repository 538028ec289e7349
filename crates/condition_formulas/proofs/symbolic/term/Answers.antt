use Rattle.std.specs.Prelude.{IfOk}
use Rattle.conditions.specs.Symbolic.{term}
use Rattle.condition_formulas.specs.Standing.{StandsAs}
use Rattle.condition_formulas.proofs.Symbolics.{by_truth}
use Rattle.condition_formulas.proofs.symbolic.term.Goals as goal

pub returns-in_ok-zero-in-Truth-clause-stands : goal.returns-in_ok-zero-in-Truth-clause-stands
returns-in_ok-zero-in-Truth-clause-stands c =
    by_truth (λ u. IfOk c.ite.result (λ id. StandsAs c.ite.new.graph id (term u))) c.in-Truth.is
    (λ f h. c.ite.ensures.stands _ _ _ (c.in_ok-zero-in-Truth.ensures.later _ _ (c.in_ok-one-in-Truth.ensures.later _ _ h)) (c.in_ok-zero-in-Truth.ensures.later _ _ c.in_ok-one-in-Truth.ensures.stands) c.in_ok-zero-in-Truth.ensures.stands)
