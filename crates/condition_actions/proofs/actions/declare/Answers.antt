use Rattle.condition_code.proofs.Walks.{gives, run_then}
use Rattle.condition_actions.proofs.actions.declare.Goals as goal

pub returns : goal.returns
returns c = λ b s hb hs.
    let x = rw c.type_of_variable.ensures at (c.in_ok-v.ensures s hs) in
    run_then x (gives (λ n f h. h) (c.put_local.ensures _ _ x.gives))
