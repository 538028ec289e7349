use Rattle.std.proofs.Common.{ap, sym}
use Rattle.conditions.specs.Statements.{receiving_place}
use Rattle.condition_code.proofs.Walks.{gives, run_then}
use Rattle.condition_walk.proofs.Receiving.{no_place, local_place, one_place}
use Rattle.condition_control.proofs.Runs.{as_run}
use Rattle.condition_walk.proofs.calls.receiving_place.Goals as goal

pub returns-in-Nobody : goal.returns-in-Nobody
returns-in-Nobody c = λ f b s hb hs.
    as_run (sym (ap (λ to. receiving_place c.args.a.now.program.now f b to s) c.in-Nobody.is)) (gives (λ n g h. h) no_place)

pub returns-in-NewVariable : goal.returns-in-NewVariable
returns-in-NewVariable c = λ f b s hb hs.
    as_run (sym (ap (λ to. receiving_place c.args.a.now.program.now f b to s) c.in-NewVariable.is)) (gives (λ n g h. h) local_place)

pub returns-in_ok-place-in-Place : goal.returns-in_ok-place-in-Place
returns-in_ok-place-in-Place c = λ f b s hb hs.
    let place = c.in_ok-place-in-Place.ensures b s hb hs in
    as_run (sym (ap (λ to. receiving_place c.args.a.now.program.now f b to s) c.in-Place.is)) (run_then place (gives (λ n g h. h) (one_place place.gives)))
