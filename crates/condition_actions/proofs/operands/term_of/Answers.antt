use Rattle.condition_code.proofs.Walks.{then_built}
use Rattle.condition_actions.proofs.operands.term_of.Goals as goal

pub returns : goal.returns
returns c = λ b s hb hs.
    let x = c.in_ok-value.ensures b s hb hs in
    record { gives = c.in_ok-id.ensures.stands _ x.gives; goes = then_built x.goes c.in_ok-id.ensures.later }
