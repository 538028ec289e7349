use Rattle.condition_code.proofs.States.{state_later}
use Rattle.condition_code.proofs.Walks.{branch_then}
use Rattle.condition_control.proofs.loops.leave_loop.Goals as goal

pub returns : goal.returns
returns c = λ start behind f s x begins ran hf hs.
    let way = c.in_ok-way.ensures.way start behind f x begins ran in
    branch_then way.went (c.in_ok-behind.ensures f s x.gives (way.went.later _ _ hf) (state_later way.went.later hs) way.way.state)
