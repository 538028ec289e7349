use Rattle.condition_formulas.proofs.Rows.{same_ids, all_later}
use Rattle.condition_actions.proofs.blocks.deferred_test.Goals as goal

pub returns-clause-stands : goal.returns-clause-stands
returns-clause-stands c = λ h0 h1 d hb ha is.
    let test = c.in_ok-test.ensures.stands _ h0 h1 is.which_is hb ha in
    c.imply_all.ensures.stands _ _ (same_ids c.deref.ensures.value (all_later c.in_ok-test.ensures.later is.guards_are)) test
