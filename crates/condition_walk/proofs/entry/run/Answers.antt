use Rattle.std.specs.Prelude.{List, ◌++◌, take, drop}
use Rattle.method.specs.declared.program.VariableInfo.{VariableInfo}
use Rattle.conditions.specs.Actions as actions
use Rattle.conditions.specs.Code as spec
use Rattle.conditions.specs.Statements.{empty_state, new_values, zeros}
use Rattle.condition_formulas.proofs.Symbolics.{are_later}
use Rattle.condition_code.proofs.States.{same_values}
use Rattle.condition_code.proofs.Walks.{run_built}
use Rattle.condition_walk.proofs.Entries.{same_heap, entered}
use Rattle.condition_walk.proofs.entry.run.Goals as goal

pub returns : goal.returns
returns c =
    let p = c.args.program.now in
    let f = c.args.f.now in
    let vs : List VariableInfo = take f.parameters f.variables.items in
    let start0 : spec.State = spec.new_heap empty_state in
    let w : actions.ValuesAndState = new_values vs start0 in
    let s : spec.State = record w.state { locals = w.values ++ zeros (drop f.parameters f.variables.items) } in
    let arguments = rw c.parameters.ensures at (c.in_ok-arguments.ensures.stands start0 c.in_ok-first.ensures.stands) in
    let start = c.in_ok-start.ensures.stands w.state w.values arguments.state_is (same_values c.deref.ensures.value arguments.values_are) in
    let ended = c.in_ok-ended.ensures s w.values start (same_values c.deref-2.ensures.value (are_later c.in_ok-start.ensures.later arguments.values_are)) in
    run_built c.in_ok-first.ensures.later (run_built c.in_ok-arguments.ensures.later (run_built c.in_ok-start.ensures.later (entered p f s w.values (same_heap vs start0) ended)))
