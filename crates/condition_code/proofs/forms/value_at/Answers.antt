use Rattle.std.specs.Prelude.{◌≤◌, length}
use Rattle.std.proofs.Common.{sym, subst, arith}
use Rattle.conditions.specs.Formulas.{nat}
use Rattle.conditions.specs.Symbolic as symbolic
use Rattle.condition_formulas.specs.declared.symbolic.Symbolic.TheVariants as code
use Rattle.condition_formulas.specs.Symbolics.{IsSymbolic}
use Rattle.condition_formulas.proofs.Symbolics.{is_number}
use Rattle.annotation_scenes.proofs.Scenes.{symbolic_here, as_many, beyond}
use Rattle.condition_code.proofs.forms.value_at.Goals as goal

pub returns-then-at-values-clause-stands : goal.returns-then-at-values-clause-stands
returns-then-at-values-clause-stands c = λ vs are.
    let late : length vs ≤ c.args.i = omega (arith, as_many are) in
    subst (λ (u : symbolic.Symbolic). IsSymbolic c.nat.new.graph (code.Number c.in_ok-zero.zero) u) (sym (beyond vs c.args.i (symbolic.Number (nat 0)) late)) (is_number c.in_ok-zero.ensures.stands)

pub returns-clause-stands : goal.returns-clause-stands
returns-clause-stands c = λ vs are. symbolic_here c.args.i _ (symbolic.Number (nat 0)) are c.if-at-values.false
