use Rattle.std.proofs.Common.{◌≡◌, [], Some, ap, sym, subst, ◌∙◌}
use Rattle.std.proofs.lemmas.Result.{err_from_is_err_and}
use Rattle.method.specs.declared.program.CheckKind.TheVariants.{Requires, Writes}
use Rattle.method.specs.Expressions.{weighed, Gives, clause_tests, item_tests, may_write, call_scene}
use Rattle.method.specs.Actions.{spot, callee}
use Rattle.method.specs.Machine.{begin_with}
use Rattle.machine_values.specs.Answers.{Stops}
use Rattle.machine_values.specs.Spots.{heap_at, context_at}
use Rattle.machine_values.proofs.Verdicts.{checks_stop, checks_pass}
use Rattle.machine_turns.specs.Turns.{IsEntered}
use Rattle.machine_turns.proofs.Turning.{passed_stops}
use Rattle.machine_turns.proofs.Calling.{items_fit, never_stops, gave_same, begun}
use Rattle.machine_turns.proofs.calls.enter.Goals as goal

pub returns-in_err-check_requires : goal.returns-in_err-check_requires
returns-in_err-check_requires c x y =
    let a = c.args in
    let r = a.here.now in
    let h = heap_at y r.heap.now in
    let at_ = spot (context_at x r.context.now) [] a.line in
    let needs = clause_tests r.program.now a.function.now.requires_.items (call_scene r.context.now.me h a.args.now) in
    let items = item_tests r.program.now (may_write at_) a.function.now.writes.items (call_scene r.context.now.me h a.args.now) in
    let e = err_from_is_err_and c.from_residual.result c.from_residual.ensures.1 in
    rw (e.1, e.2) (checks_stop at_ Requires _ c.in_err-check_requires.field-0.0 needs 0 (c.in_err-check_requires.ensures x y))

pub returns-in_err-check_writes : goal.returns-in_err-check_writes
returns-in_err-check_writes c x y =
    let a = c.args in
    let r = a.here.now in
    let h = heap_at y r.heap.now in
    let at_ = spot (context_at x r.context.now) [] a.line in
    let needs = clause_tests r.program.now a.function.now.requires_.items (call_scene r.context.now.me h a.args.now) in
    let items = item_tests r.program.now (may_write at_) a.function.now.writes.items (call_scene r.context.now.me h a.args.now) in
    let e = err_from_is_err_and c.from_residual-in_err-check_writes.result c.from_residual-in_err-check_writes.ensures.1 in
    let s = c.in_err-check_writes.field-0.0 in
    rw (e.1, e.2) (passed_stops at_ Requires _ needs 0 (c.in_ok-check_requires.ensures x y) s (checks_stop at_ Writes _ s items 0 (c.in_err-check_writes.ensures x y)))

pub returns-in_err-context : goal.returns-in_err-context
returns-in_err-context c x y =
    let a = c.args in
    let r = a.here.now in
    let h = heap_at y r.heap.now in
    let at_ = spot (context_at x r.context.now) [] a.line in
    let needs = clause_tests r.program.now a.function.now.requires_.items (call_scene r.context.now.me h a.args.now) in
    let items = item_tests r.program.now (may_write at_) a.function.now.writes.items (call_scene r.context.now.me h a.args.now) in
    let e = err_from_is_err_and c.from_residual-in_err-context.result c.from_residual-in_err-context.ensures.1 in
    let fits = items_fit r.program.now a.line (may_write at_) a.function.now.writes.items (call_scene r.context.now.me h a.args.now) (c.in_ok-check_writes.ensures x y) in
    let entry = callee r.program.now a.number a.function.now r.context.now.me h a.args.now in
    let s = c.in_err-context.field-0.0 in
    rw (e.1, e.2) (passed_stops at_ Requires _ needs 0 (c.in_ok-check_requires.ensures x y) s (passed_stops at_ Writes _ items 0 (c.in_ok-check_writes.ensures x y) s
    (never_stops s entry _ (subst (λ w. Stops s (weighed w (Gives entry))) fits (c.in_err-context.ensures y)))))

pub returns : goal.returns
returns c x y =
    let a = c.args in
    let r = a.here.now in
    let h = heap_at y r.heap.now in
    let at_ = spot (context_at x r.context.now) [] a.line in
    let needs = clause_tests r.program.now a.function.now.requires_.items (call_scene r.context.now.me h a.args.now) in
    let items = item_tests r.program.now (may_write at_) a.function.now.writes.items (call_scene r.context.now.me h a.args.now) in
    let fits = items_fit r.program.now a.line (may_write at_) a.function.now.writes.items (call_scene r.context.now.me h a.args.now) (c.in_ok-check_writes.ensures x y) in
    let entry = callee r.program.now a.number a.function.now r.context.now.me h a.args.now in
    let k = c.in_ok-context.context in
    let same = gave_same entry (context_at y k) (subst (λ w. weighed w (Gives entry) ≡ Gives (context_at y k)) fits (c.in_ok-context.ensures y)) in
    let pass = checks_pass at_ Requires _ needs 0 (c.in_ok-check_requires.ensures x y) ∙ checks_pass at_ Writes (Gives (begin_with (Some a.function.now) entry)) items 0 (c.in_ok-check_writes.ensures x y) in
    subst (IsEntered y c.begin.result) (sym pass) (begun y c.begin.result a.function.now (begin_with (Some a.function.now) entry) k c.begin.ensures.ok c.begin.ensures.err (ap (begin_with (Some a.function.now)) same))
