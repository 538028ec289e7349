use Rattle.std.proofs.Common.{◌+◌}
use Rattle.std.proofs.lemmas.Result.{err_from_is_err_and}
use Rattle.method.specs.Actions as m
use Rattle.machine_values.specs.Spots.{spot_at}
use Rattle.machine_values.proofs.Outcomes.{stops_after, stops_or_after, anyhow}
use Rattle.machine_objects.specs.Runs.{progress_at, place_of, Follows, Lands, Leaves, Runs}
use Rattle.machine_objects.proofs.Landing.{gives_comes, gives_stops_or, then_comes, comes_anyhow, of_leaver}
use Rattle.machine_actions.proofs.simple.assign.Goals as goal

pub returns-in_err-place : goal.returns-in_err-place
returns-in_err-place c t n x e finite =
    let a = c.args in
    let p = err_from_is_err_and c.from_residual.result c.from_residual.ensures.1 in
    rw (p.1, p.2)
    (anyhow _ c.in_err-place.field-0.0 _
    (stops_after c.in_err-place.field-0.0 (m.left_side a.at.now.program.now (spot_at x a.at.now) a.target.now n (progress_at e a.progress.now)) _ (c.in_err-place.ensures n x e finite)))

pub returns-in_err-v : goal.returns-in_err-v
returns-in_err-v c t n x e finite =
    let a = c.args in
    let p = a.at.now.program.now in
    let s = spot_at x a.at.now in
    let g = progress_at e a.progress.now in
    let k = n + m.target_checks a.target.now in
    let q = err_from_is_err_and c.from_residual-in_err-v.result c.from_residual-in_err-v.ensures.1 in
    rw (q.1, q.2)
    (gives_stops_or _ c.in_err-v.field-0.0 (m.left_side p s a.target.now n g) _ (place_of c.in_ok-place.place) (c.in_ok-place.ensures n x e finite)
    (stops_or_after _ c.in_err-v.field-0.0 (m.right_side p s a.right.now (place_of c.in_ok-place.place) k t g) _ (c.in_err-v.ensures t k x e finite)))

pub returns : goal.returns
returns c t n x e finite =
    let a = c.args in
    let p = a.at.now.program.now in
    let s = spot_at x a.at.now in
    let g = progress_at e a.progress.now in
    let k = n + m.target_checks a.target.now in
    let place = place_of c.in_ok-place.place in
    let last = n + m.target_checks a.target.now + m.right_checks p s.inside a.right.now in
    comes_anyhow _ c.store.result (λ u r. Lands (Follows _) r) _
    (gives_comes (m.left_side p s a.target.now n g) _ place (c.in_ok-place.ensures n x e finite) c.store.result (λ u r. Lands (Follows _) r)
    (then_comes (Leaves _ c.in_ok-v.v) (m.right_side p s a.right.now place k t g) _ (c.in_ok-v.ensures t k x e finite) c.store.result (λ u. Follows _)
    (λ w left. of_leaver (λ w'. Runs c.store.result c.store.new.progress (m.store p s place w'.value last w'.starting)) _ c.in_ok-v.v w left (λ e' finite'. c.store.ensures last x e' finite'))))
