use Rattle.condition_formulas.proofs.Rows.{same_ids}
use Rattle.condition_code.proofs.States.{spot_later, state_later}
use Rattle.condition_code.proofs.Walks.{gives, run_then, run_built, checks_then}
use Rattle.condition_control.proofs.returns.return_checks.Goals as goal

pub returns : goal.returns
returns c = λ b s hb hs.
    let value = c.in_ok-value.ensures c.args.f.now b s hb hs in
    let there = spot_later value.goes.later hb in
    let now = state_later value.goes.later hs in
    let ensured = c.in_ok-ensured.ensures.stands b _ _ _ _ there.entry_is there.args_are now.heap_is value.gives in
    let went = c.in_ok-check_each.ensures _ (same_ids c.deref.ensures.value ensured) in
    run_then value (run_built c.in_ok-ensured.ensures.later (checks_then _ went (gives (λ n g h. h) (state_later went.later (state_later c.in_ok-ensured.ensures.later now)))))
