use Rattle.std.proofs.Common.{◌≡◌, ◌∙◌, None, sym, ap}
use Rattle.std.proofs.lemmas.Result.{err_from_is_err_and}
use Rattle.method.specs.Expressions.{Gives, weighed, call_scene}
use Rattle.method.specs.Actions.{items_of, items_overflow, callee}
use Rattle.machine_values.specs.Spots.{heap_at}
use Rattle.machine_ownership.proofs.Naming.{works_weighed}
use Rattle.machine_ownership.proofs.Scenes.{call_items, call_overflow}
use Rattle.machine_ownership.proofs.spawn.callee.Goals as goal

pub returns-in_err-writes : goal.returns-in_err-writes
returns-in_err-writes c x =
    let a = c.args in
    let h = heap_at x a.h.now in
    let q = err_from_is_err_and c.from_residual-in_err-writes.result c.from_residual-in_err-writes.ensures.1 in
    rw (q.1, q.2)
    (works_weighed c.in_err-writes.field-0.0 _ _ _ (callee a.program.now a.number a.function.now a.me h a.args.now)
    (call_overflow a.program.now c.in_ok-env.env a.me a.args.now c.in_ok-env.ensures.ok a.h.now x c.deref.result.now ∙ ap (λ es. items_overflow a.program.now es (call_scene a.me h a.args.now)) c.deref.ensures.value)
    c.in_err-writes.ensures)

pub returns : goal.returns
returns c x =
    let a = c.args in
    let s = call_scene a.me (heap_at x a.h.now) a.args.now in
    let named = c.in_ok-writes.ensures.1 ∙ call_items a.program.now c.in_ok-env.env a.me a.args.now c.in_ok-env.ensures.ok a.h.now x c.deref.result.now ∙ ap (λ es. items_of a.program.now es s) c.deref.ensures.value in
    let fits : items_overflow a.program.now a.function.now.writes.items s ≡ None =
    sym (call_overflow a.program.now c.in_ok-env.env a.me a.args.now c.in_ok-env.ensures.ok a.h.now x c.deref.result.now ∙ ap (λ es. items_overflow a.program.now es s) c.deref.ensures.value) ∙ c.in_ok-writes.ensures.0 in
    λ i. weighed (fits i) (Gives (record { function = a.number; me = a.me; entry = heap_at x (sym c.in_ok-entry.ensures i); writes = sym named i; args = sym c.in_ok-args.ensures.items i }))
