use Rattle.std.specs.Prelude.{ℕ}
use Rattle.std.proofs.Common.{subst}
use Rattle.conditions.specs.Formulas as formulas
use Rattle.condition_formulas.specs.Standing.{StandsAs}
use Rattle.condition_formulas.proofs.Symbolics.{is_reference}
use Rattle.condition_code.proofs.States.{state_later, one_reference}
use Rattle.condition_code.proofs.state.new_reference.Goals as goal

pub returns-clause-stands : goal.returns-clause-stands
returns-clause-stands c = λ s hs. record {
  value_is = is_reference (subst (λ (n : ℕ). StandsAs c.reference.new.graph c.in_ok-constant.constant (formulas.reference n)) hs.references_is c.in_ok-constant.ensures.stands);
  state_is = one_reference c.in-Some.ensures.1 (state_later c.in_ok-constant.ensures.later hs);
}
