use Rattle.condition_code.proofs.Walks.{gives}
use Rattle.condition_stores.proofs.owning.member_change.Goals as goal

pub returns-in-Assigned : goal.returns-in-Assigned
returns-in-Assigned c = λ b x y s hb hx hy hs. rw c.in-Assigned.is (gives (λ n f h. h) hs)

pub returns-in_ok-state-in-Added : goal.returns-in_ok-state-in-Added
returns-in_ok-state-in-Added c = λ b x y s hb hx hy hs. rw c.in-Added.is (c.in_ok-state-in-Added.ensures b x y s hb hx hy hs)

pub returns-in_ok-state-in-Removed : goal.returns-in_ok-state-in-Removed
returns-in_ok-state-in-Removed c = λ b x y s hb hx hy hs. rw c.in-Removed.is (c.in_ok-state-in-Removed.ensures b x y s hb hx hy hs)
