use Rattle.std.specs.Prelude.{ℕ}
use Rattle.std.proofs.Common.{subst}
use Rattle.conditions.specs.Formulas as formulas
use Rattle.condition_formulas.specs.Standing.{StandsAs}
use Rattle.condition_code.proofs.States.{state_later, one_heap}
use Rattle.condition_code.proofs.state.new_heap.Goals as goal

pub returns-clause-stands : goal.returns-clause-stands
returns-clause-stands c = λ s hs.
    one_heap c.in-Some.ensures.1 (subst (λ (n : ℕ). StandsAs c.heap.new.graph c.in_ok-constant.constant (formulas.heap n)) hs.heaps_is c.in_ok-constant.ensures.stands) (state_later c.in_ok-constant.ensures.later hs)
