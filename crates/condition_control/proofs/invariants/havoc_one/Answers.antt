use Rattle.condition_code.proofs.Walks.{gives, run_then}
use Rattle.condition_control.proofs.Runs.{as_run}
use Rattle.condition_control.proofs.Steps.{havoc_unset, havoc_set}
use Rattle.condition_control.proofs.invariants.havoc_one.Goals as goal

pub returns-then-not-is_set : goal.returns-then-not-is_set
returns-then-not-is_set c = λ s hs. as_run (havoc_unset c.args.is_set c.args.f.now c.args.i s c.if-not-is_set.true) (gives (λ n f h. h) hs)

pub returns : goal.returns
returns c = λ s hs.
    let value = c.in_ok-value.ensures s hs in
    as_run (havoc_set c.args.is_set c.args.f.now c.args.i s c.type_of_variable.result c.if-not-is_set.false c.type_of_variable.ensures) (run_then value (gives (λ n f h. h) (c.put_local.ensures _ _ value.gives)))
