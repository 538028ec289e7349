use Rattle.std.proofs.Common.{◌+◌, false}
use Rattle.std.proofs.lemmas.Result.{err_from_is_err_and}
use Rattle.method.specs.Actions as m
use Rattle.machine_values.specs.Spots.{spot_at}
use Rattle.machine_values.proofs.Outcomes.{stops_or_after}
use Rattle.machine_objects.specs.Runs.{progress_at, Follows, Lands, Leaves, Runs}
use Rattle.machine_objects.proofs.Landing.{then_comes, comes_anyhow, of_leaver}
use Rattle.machine_actions.proofs.actions.define.Goals as goal

pub returns : goal.returns
returns c n x e finite =
    let a = c.args in
    let p = a.at.now.program.now in
    let s = spot_at x a.at.now in
    let g = progress_at e a.progress.now in
    let last = n + m.right_checks p false a.right.now in
    comes_anyhow _ c.store.result (λ u r. Lands (Follows _) r) _
    (then_comes (Leaves _ c.in_ok-v.v) (m.right_side p s a.right.now (m.InLocal a.i) n m.no_tally g) _ (c.in_ok-v.ensures m.no_tally n x e finite) c.store.result (λ u. Follows _)
    (λ w left. of_leaver (λ w'. Runs c.store.result c.store.new.progress (m.store p s (m.InLocal a.i) w'.value last w'.starting)) _ c.in_ok-v.v w left (λ e' finite'. c.store.ensures last x e' finite')))

pub returns-in_err-v : goal.returns-in_err-v
returns-in_err-v c n x e finite =
    let a = c.args in
    let q = err_from_is_err_and c.from_residual.result c.from_residual.ensures.1 in
    rw (q.1, q.2)
    (stops_or_after _ c.in_err-v.field-0.0 (m.right_side a.at.now.program.now (spot_at x a.at.now) a.right.now (m.InLocal a.i) n m.no_tally (progress_at e a.progress.now)) _
    (c.in_err-v.ensures m.no_tally n x e finite))
