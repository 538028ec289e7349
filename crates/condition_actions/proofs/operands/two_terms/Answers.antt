use Rattle.std.specs.Prelude.{[], ◌∷◌}
use Rattle.condition_formulas.proofs.Rows.{none}
use Rattle.condition_code.proofs.States.{spot_later, state_later}
use Rattle.condition_code.proofs.Walks.{gives}
use Rattle.condition_actions.proofs.Runs.{with_first, as_ids}
use Rattle.condition_actions.proofs.operands.two_terms.Goals as goal

pub returns : goal.returns
returns c = λ b s hb hs.
    let p = c.args.a.now.program.now in
    let x = c.in_ok-first.ensures b s hb hs in
    let y = c.in_ok-second.ensures b s (spot_later x.goes.later hb) (state_later x.goes.later hs) in
    as_ids c.in_ok-ids.ensures (with_first p b s c.args.e.now (c.args.e2.now ∷ []) x (with_first p b s c.args.e2.now [] y (gives (λ n f h. h) none)))
