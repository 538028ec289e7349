use Rattle.condition_stores.proofs.owning.owned_change.Goals as goal

pub returns-in_ok-state-in-Assigned : goal.returns-in_ok-state-in-Assigned
returns-in_ok-state-in-Assigned c = λ b x qs s hb hx hqs hs. rw c.in-Assigned.is (c.in_ok-state-in-Assigned.ensures b x qs s hb hx hqs hs)

pub returns-in_ok-state-in-Added : goal.returns-in_ok-state-in-Added
returns-in_ok-state-in-Added c = λ b x qs s hb hx hqs hs. rw c.in-Added.is (c.in_ok-state-in-Added.ensures b x qs s hb hx hqs hs)

pub returns-in_ok-state-in-Removed : goal.returns-in_ok-state-in-Removed
returns-in_ok-state-in-Removed c = λ b x qs s hb hx hqs hs. rw c.in-Removed.is (c.in_ok-state-in-Removed.ensures b x qs s hb hx hqs hs)
