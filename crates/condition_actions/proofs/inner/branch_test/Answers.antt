use Rattle.condition_code.proofs.Walks.{then_built}
use Rattle.condition_actions.proofs.inner.branch_test.Goals as goal

pub returns : goal.returns
returns c = λ b s hb hs.
    let x = c.in_ok-value.ensures b s hb hs in
    let passes = c.in_ok-passes.ensures.stands _ x.gives in
    record { went = then_built (then_built x.goes c.in_ok-passes.ensures.later) c.in_ok-fails.ensures.later; passes = c.in_ok-fails.ensures.later _ _ passes; fails = c.in_ok-fails.ensures.stands _ passes }
