use Rattle.condition_code.proofs.Walks.{gives, run_then}
use Rattle.condition_actions.proofs.Kept.{local_place}
use Rattle.condition_actions.proofs.actions.define.Goals as goal

pub returns : goal.returns
returns c = λ b s hb hs.
    let x = c.in_ok-v.ensures b _ s hb local_place hs in
    run_then x (gives (λ n f h. h) (c.put_local.ensures _ _ x.gives))
