use Rattle.std.specs.Prelude.{List}
use Rattle.std.proofs.Common.{ap}
use Rattle.method.specs.declared.program.Stmt.{Stmt}
use Rattle.condition_code.proofs.States.{spot_later}
use Rattle.condition_code.proofs.Walks.{run_then}
use Rattle.condition_control.specs.Forms.{all_stmts}
use Rattle.condition_control.proofs.Runs.{as_run}
use Rattle.condition_walk.proofs.Entries.{body_is}
use Rattle.condition_walk.proofs.entry.body.Goals as goal

pub returns : goal.returns
returns c = λ b s hb hs.
    let p = c.args.a.now.program.now in
    let f = c.args.f.now in
    let done = as_run (ap (λ (xs : List Stmt). all_stmts p f b xs s) c.deref.ensures.value) (c.in_ok-done.ensures b s hb hs) in
    as_run (body_is p f b f.body.items s) (run_then done (c.in_ok-ended.ensures b _ (spot_later done.goes.later hb) done.gives))
