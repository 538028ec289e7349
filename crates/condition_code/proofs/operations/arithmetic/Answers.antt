use Rattle.std.specs.Prelude.{Bool, if◌then◌else◌}
use Rattle.std.proofs.Common.{sym, ◌∙◌, subst}
use Rattle.conditions.specs.Code as spec
use Rattle.conditions.specs.Formulas.{not', eq, nat}
use Rattle.conditions.specs.Paths.{Execution, Gives, check}
use Rattle.conditions.specs.Symbolic as symbolic
use Rattle.condition_formulas.specs.Symbolics.{IsSymbolic}
use Rattle.condition_code.specs.Walks.{Ran}
use Rattle.condition_code.proofs.Walks.{run_built, check_then}
use Rattle.condition_code.proofs.operations.arithmetic.Goals as goal

pub returns-then-divides : goal.returns-then-divides
returns-then-divides c = λ p b f g hf hg.
    let went = c.in_ok-check.ensures _ (c.in_ok-nonzero.ensures.stands _ hg) in
    let f1 = went.later _ _ (c.in_ok-nonzero.ensures.later _ _ hf) in
    let g1 = went.later _ _ (c.in_ok-nonzero.ensures.later _ _ hg) in
    let rest : Execution symbolic.Symbolic = check (spec.in_range p b c.args.ty (spec.checked_result p b c.args.operator f g)) (Gives (symbolic.Number (symbolic.compute c.args.operator f g))) in
    subst (λ (d : Bool). Ran IsSymbolic c.args.walk.now c.ranged.new.walk c.in_ok-value.value (if d then check (not' (eq g (nat 0))) rest else rest)) (sym (sym c.divides.ensures ∙ c.if-divides.true)) (run_built c.in_ok-nonzero.ensures.later (check_then went (c.in_ok-value.ensures p b _ _ f1 g1)))

pub returns : goal.returns
returns c = λ p b f g hf hg.
    let rest : Execution symbolic.Symbolic = check (spec.in_range p b c.args.ty (spec.checked_result p b c.args.operator f g)) (Gives (symbolic.Number (symbolic.compute c.args.operator f g))) in
    subst (λ (d : Bool). Ran IsSymbolic c.args.walk.now c.ranged-2.new.walk c.in_ok-value-2.value (if d then check (not' (eq g (nat 0))) rest else rest)) (sym (sym c.divides.ensures ∙ c.if-divides.false)) (c.in_ok-value-2.ensures p b _ _ hf hg)
