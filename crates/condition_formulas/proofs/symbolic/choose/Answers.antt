use Rattle.std.proofs.Common.{sym, ◌∙◌, subst}
use Rattle.conditions.specs.Symbolic as spec
use Rattle.condition_formulas.specs.declared.symbolic.Symbolic.TheVariants as code
use Rattle.condition_formulas.specs.Symbolics.{IsSymbolic}
use Rattle.condition_formulas.proofs.Symbolics.{is_truth, symbolic_later, chosen_truth, chosen_other}
use Rattle.condition_formulas.proofs.symbolic.choose.Goals as goal

pub returns-then-are_one_and_zero-clause-stands : goal.returns-then-are_one_and_zero-clause-stands
returns-then-are_one_and_zero-clause-stands c = λ b v w hb hv hw.
    subst (λ (u : spec.Symbolic). IsSymbolic c.args.graph.now (code.Truth c.args.test) u) (sym (chosen_truth b v w (sym (c.are_one_and_zero.ensures v w hv hw) ∙ c.if-are_one_and_zero.true))) (is_truth hb)

pub returns-clause-stands : goal.returns-clause-stands
returns-clause-stands c = λ b v w hb hv hw.
    let x = c.in_ok-x.ensures.stands v hv in
    let y = c.in_ok-y.ensures.stands w (symbolic_later c.in_ok-x.ensures.later hw) in
    let test = c.in_ok-y.ensures.later _ _ (c.in_ok-x.ensures.later _ _ hb) in
    let whole = c.in_ok-id.ensures.stands _ _ _ test (c.in_ok-y.ensures.later _ _ x) y in
    let first = symbolic_later c.in_ok-id.ensures.later (symbolic_later c.in_ok-y.ensures.later (symbolic_later c.in_ok-x.ensures.later hv)) in
    subst (λ (u : spec.Symbolic). IsSymbolic c.ite.new.graph c.chosen_like.result u) (sym (chosen_other b v w (sym (c.are_one_and_zero.ensures v w hv hw) ∙ c.if-are_one_and_zero.false))) (c.chosen_like.ensures _ v _ first whole)
