use Rattle.condition_formulas.proofs.Rows.{all_later}
use Rattle.condition_stores.proofs.Places.{then_later}
use Rattle.condition_stores.proofs.exchange.compared_value.Goals as goal

pub returns-clause-stands : goal.returns-clause-stands
returns-clause-stands c = λ xs y all hy.
    let old = c.in_ok-old.ensures.stands _ all in
    let l = c.in_ok-old.ensures.later in
    let same = c.in_ok-same.ensures.stands _ _ (l _ _ hy) old in
    let k = then_later l c.in_ok-same.ensures.later in
    let new' = c.in_ok-new.ensures.stands _ (all_later k all) in
    let j = then_later k c.in_ok-new.ensures.later in
    c.ite.ensures.stands _ _ _ (c.in_ok-new.ensures.later _ _ same) new' (j _ _ hy)
