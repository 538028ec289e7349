use Rattle.std.proofs.Common.{◌∙◌, List, Ok, Err, refl, sym, ap, subst}
use Rattle.std.proofs.lemmas.Result.{err_from_is_err_and}
use Rattle.object_types.specs.Heap.{hand_over}
use Rattle.object_types.specs.Lookups.{heap_of}
use Rattle.method.specs.declared.program.CheckKind.TheVariants.{Spawn}
use Rattle.method.specs.Expressions.{Tested, call_scene}
use Rattle.method.specs.Actions.{Fresh, items_of}
use Rattle.machine_laws.proofs.Heaps.{hand_finite}
use Rattle.machine_values.specs.Answers.{Stops, Finds, verdict}
use Rattle.machine_values.specs.Spots.{heap_at, context_at, spot_at}
use Rattle.machine_values.proofs.Outcomes.{anyhow}
use Rattle.machine_objects.specs.Runs.{Follows}
use Rattle.machine_objects.proofs.Checks.{lands_gives}
use Rattle.machine_objects.proofs.Landing.{exhausts}
use Rattle.machine_ownership.specs.Threads.{ArePassing}
use Rattle.machine_ownership.specs.RunsOut.{NoThread}
use Rattle.machine_ownership.proofs.Spawns.{started_follows, handed_alike, spawn_refused, spawn_unmet, spawn_wide, spawn_gives, required_is, enters_is}
use Rattle.machine_ownership.proofs.spawn.spawn.Goals as goal

pub returns-in_err-items : goal.returns-in_err-items
returns-in_err-items c n y e finite =
    let a = c.args in
    let p = a.at.now.program.now in
    let s = spot_at y a.at.now in
    let f = a.function.now in
    let h = heap_at e.support a.progress.now.heap in
    let q = err_from_is_err_and c.from_residual.result c.from_residual.ensures.1 in
    rw (q.1, q.2)
    (anyhow _ c.in_err-items.field-0.0 _
    (spawn_refused p s a.number f a.args.now n e a.progress.now c.in_err-items.field-0.0 (subst (λ es. ArePassing (Err c.in_err-items.field-0.0) p s h es a.args.now) c.deref.ensures.value (c.in_err-items.ensures y e.support finite))))

pub returns-in_err-check_clauses : goal.returns-in_err-check_clauses
returns-in_err-check_clauses c n y e finite =
    let a = c.args in
    let p = a.at.now.program.now in
    let s = spot_at y a.at.now in
    let f = a.function.now in
    let h = heap_at e.support a.progress.now.heap in
    let passing = subst (λ es. ArePassing (Ok c.in_ok-items.items) p s h es a.args.now) c.deref.ensures.value (c.in_ok-items.ensures y e.support finite) in
    let u = c.in_ok-thread.thread in
    let least = c.in_ok-thread.ensures.ok e.support finite in
    let k = hand_over h (items_of p f.writes.items (call_scene s.context.me h a.args.now)) u in
    let records = handed_alike a.progress.now.heap e.support _ u ∙ sym (c.in_ok-hand_over.ensures.ok ∙ ap (λ xs. (hand_over (heap_of a.progress.now.heap) xs u).get) (c.deref-2.ensures.value ∙ passing.1)) in
    let stored = c.hand_over.new.h in
    let required = required_is p s a.number f a.args.now n e a.progress.now passing.0 u least stored records c.in_ok-env.env c.in_ok-env.ensures.ok c.deref-3.result.now c.deref-3.ensures.value in
    let q = err_from_is_err_and c.from_residual-in_err-check_clauses.result c.from_residual-in_err-check_clauses.ensures.1 in
    rw (q.1, q.2)
    (anyhow _ c.in_err-check_clauses.field-0.0 _
    (spawn_unmet p s a.number f a.args.now n e a.progress.now passing.0 u least c.in_err-check_clauses.field-0.0
    (subst (λ (ts : List Tested). Finds (Err c.in_err-check_clauses.field-0.0) (verdict a.at.now.line Spawn ts)) required c.in_err-check_clauses.ensures)))

pub returns-in_err-context : goal.returns-in_err-context
returns-in_err-context c n y e finite =
    let a = c.args in
    let p = a.at.now.program.now in
    let s = spot_at y a.at.now in
    let f = a.function.now in
    let h = heap_at e.support a.progress.now.heap in
    let passing = subst (λ es. ArePassing (Ok c.in_ok-items.items) p s h es a.args.now) c.deref.ensures.value (c.in_ok-items.ensures y e.support finite) in
    let u = c.in_ok-thread.thread in
    let least = c.in_ok-thread.ensures.ok e.support finite in
    let k = hand_over h (items_of p f.writes.items (call_scene s.context.me h a.args.now)) u in
    let records = handed_alike a.progress.now.heap e.support _ u ∙ sym (c.in_ok-hand_over.ensures.ok ∙ ap (λ xs. (hand_over (heap_of a.progress.now.heap) xs u).get) (c.deref-2.ensures.value ∙ passing.1)) in
    let stored = c.hand_over.new.h in
    let required = required_is p s a.number f a.args.now n e a.progress.now passing.0 u least stored records c.in_ok-env.env c.in_ok-env.ensures.ok c.deref-3.result.now c.deref-3.ensures.value in
    let met = ap (verdict a.at.now.line Spawn) (sym required) ∙ c.in_ok-check_clauses.ensures in
    let enters = enters_is p s a.number f a.args.now n e a.progress.now passing.0 u least stored records in
    let q = err_from_is_err_and c.from_residual-in_err-context.result c.from_residual-in_err-context.ensures.1 in
    rw (q.1, q.2)
    (anyhow _ c.in_err-context.field-0.0 _
    (spawn_wide p s a.number f a.args.now n e a.progress.now passing.0 u least met c.in_err-context.field-0.0 (subst (Stops c.in_err-context.field-0.0) enters (c.in_err-context.ensures k.support))))

pub returns-in_err-thread : goal.returns-in_err-thread
returns-in_err-thread c n y e finite =
    let a = c.args in
    let q = err_from_is_err_and c.from_residual-in_err-thread.result c.from_residual-in_err-thread.ensures.1 in
    rw (q.1, q.2)
    (exhausts (NoThread (Fresh a.progress.now.next_thread) (heap_at e.support a.progress.now.heap)) c.in_err-thread.field-0.0 _ c.in_err-thread.ensures.err
    (c.in_err-thread.ensures.exhausted e.support finite))

pub returns : goal.returns
returns c n y e finite =
    let a = c.args in
    let p = a.at.now.program.now in
    let s = spot_at y a.at.now in
    let f = a.function.now in
    let h = heap_at e.support a.progress.now.heap in
    let passing = subst (λ es. ArePassing (Ok c.in_ok-items.items) p s h es a.args.now) c.deref.ensures.value (c.in_ok-items.ensures y e.support finite) in
    let u = c.in_ok-thread.thread in
    let least = c.in_ok-thread.ensures.ok e.support finite in
    let k = hand_over h (items_of p f.writes.items (call_scene s.context.me h a.args.now)) u in
    let records = handed_alike a.progress.now.heap e.support _ u ∙ sym (c.in_ok-hand_over.ensures.ok ∙ ap (λ xs. (hand_over (heap_of a.progress.now.heap) xs u).get) (c.deref-2.ensures.value ∙ passing.1)) in
    let stored = c.hand_over.new.h in
    let required = required_is p s a.number f a.args.now n e a.progress.now passing.0 u least stored records c.in_ok-env.env c.in_ok-env.ensures.ok c.deref-3.result.now c.deref-3.ensures.value in
    let met = ap (verdict a.at.now.line Spawn) (sym required) ∙ c.in_ok-check_clauses.ensures in
    let enters = enters_is p s a.number f a.args.now n e a.progress.now passing.0 u least stored records in
    lands_gives (Follows _) _ _
    (spawn_gives p s a.number f a.args.now n e a.progress.now passing.0 u least met (context_at k.support c.in_ok-context.context) (sym enters ∙ c.in_ok-context.ensures k.support))
    (started_follows e a.progress.now _ k c.in_ok-context.context records (hand_finite h (items_of p f.writes.items (call_scene s.context.me h a.args.now)) u finite) c.in_ok-push.ensures.items refl)
