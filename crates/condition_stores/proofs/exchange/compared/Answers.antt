use Rattle.condition_formulas.proofs.Symbolics.{is_truth, symbolic_later}
use Rattle.condition_stores.proofs.exchange.compared.Goals as goal

pub returns-clause-stands : goal.returns-clause-stands
returns-clause-stands c = λ p b x y hx hy.
    let l = c.in_ok-left.ensures.later in
    let m = c.in_ok-right.ensures.later in
    let left = c.in_ok-left.ensures.stands _ hx in
    let right = c.in_ok-right.ensures.stands _ (symbolic_later l hy) in
    is_truth (c.in_ok-id.ensures.stands _ _ (m _ _ left) right)
