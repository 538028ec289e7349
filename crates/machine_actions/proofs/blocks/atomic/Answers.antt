use Rattle.std.proofs.Common.{◌≡◌, ◌+◌, List, Ok, Err, map, length, refl, ap, subst, ◌∙◌}
use Rattle.std.proofs.lemmas.Result.{err_from_is_err_and}
use Rattle.object_types.specs.declared.references.Ref.{Ref}
use Rattle.object_types.specs.Values.{referent}
use Rattle.method.specs.declared.program.CheckKind.TheVariants.{AtomicClosed, Invariant}
use Rattle.method.specs.Expressions.{Tested, all_checks}
use Rattle.method.specs.Actions as m
use Rattle.machine_values.specs.Spots.{context_at, spot_at}
use Rattle.machine_values.specs.Answers.{Finds, StopsOr, verdict}
use Rattle.machine_values.proofs.Outcomes.{anyhow}
use Rattle.machine_values.specs.Testing.{inv_tests}
use Rattle.machine_objects.specs.Runs.{progress_at, Follows, Lands}
use Rattle.machine_objects.proofs.Checks.{lands_gives}
use Rattle.machine_actions.specs.Inside.{closed_tests}
use Rattle.machine_actions.specs.RunsOut.{ListRunsOut}
use Rattle.machine_actions.proofs.Closing.{tests_closed}
use Rattle.machine_actions.proofs.BlockEnds.{ends, listed_stop, changed_stop, made_stop, all_pass, unlisted, unclosed, inner_stop, block_comes}
use Rattle.machine_actions.proofs.blocks.atomic.Goals as goal

pub returns-in_err-values : goal.returns-in_err-values
returns-in_err-values c n x e finite =
    let a = c.args in
    let q = err_from_is_err_and c.from_residual.result c.from_residual.ensures.1 in
    rw (q.1, q.2)
    (anyhow _ c.in_err-values.field-0.0 _ (unlisted a.at.now.program.now (spot_at x a.at.now) a.listed.now a.body.now n (progress_at e a.progress.now) c.in_err-values.field-0.0 (c.in_err-values.ensures n x e finite)))

pub returns-in_err-check_closed : goal.returns-in_err-check_closed
returns-in_err-check_closed c n x e finite =
    let a = c.args in
    let vs = c.in_ok-values.values.items in
    let os = c.in_ok-objects.objects.items in
    let stop = c.in_err-check_closed.field-0.0 in
    let q = err_from_is_err_and c.from_residual-in_err-check_closed.result c.from_residual-in_err-check_closed.ensures.1 in
    let objects : os ≡ map referent vs = c.in_ok-objects.ensures ∙ ap (map referent) c.deref.ensures.value in
    let same = ap (closed_tests a.progress.now.heap) c.deref-2.ensures.value ∙ tests_closed a.progress.now.heap e.support os in
    rw (q.1, q.2)
    (anyhow _ stop _
    (unclosed a.at.now.program.now (spot_at x a.at.now) a.listed.now a.body.now n (progress_at e a.progress.now) vs os objects (c.in_ok-values.ensures n x e finite) stop
    (subst (λ (ts : List Tested). Finds (Err stop) (verdict a.at.now.line AtomicClosed ts)) same c.in_err-check_closed.ensures)))

pub returns-in_err-run_list : goal.returns-in_err-run_list
returns-in_err-run_list c n x e finite =
    let a = c.args in
    let p = a.at.now.program.now in
    let vs = c.in_ok-values.values.items in
    let os = c.in_ok-objects.objects.items in
    let g = progress_at e a.progress.now in
    let stop = c.in_err-run_list.field-0.0 in
    let k = n + all_checks (m.listed_exprs a.listed.now) + length a.listed.now in
    let q = err_from_is_err_and c.from_residual-in_err-run_list.result c.from_residual-in_err-run_list.ensures.1 in
    let objects : os ≡ map referent vs = c.in_ok-objects.ensures ∙ ap (map referent) c.deref.ensures.value in
    let same = ap (closed_tests a.progress.now.heap) c.deref-2.ensures.value ∙ tests_closed a.progress.now.heap e.support os in
    let closed = subst (λ (ts : List Tested). Finds (Ok tt) (verdict a.at.now.line AtomicClosed ts)) same c.in_ok-check_closed.ensures in
    let z = context_at x a.at.now.context.now in
    let stops = subst (λ (rs : List Ref). StopsOr (ListRunsOut p z rs a.body.now k m.no_tally g) stop (m.run_list p z rs a.body.now k m.no_tally g)) c.deref-3.ensures.value (c.in_err-run_list.ensures m.no_tally k x e finite) in
    rw (q.1, q.2)
    (inner_stop p (spot_at x a.at.now) a.listed.now a.body.now n g vs os objects (c.in_ok-values.ensures n x e finite) closed stop stops)

pub returns-in_err-check_invariants : goal.returns-in_err-check_invariants
returns-in_err-check_invariants c n x e finite =
    let a = c.args in
    let p = a.at.now.program.now in
    let s = spot_at x a.at.now in
    let ls = a.listed.now in
    let vs = c.in_ok-values.values.items in
    let os = c.in_ok-objects.objects.items in
    let g = progress_at e a.progress.now in
    let now = c.run_list.new.progress in
    let stop = c.in_err-check_invariants.field-0.0 in
    let k = n + all_checks (m.listed_exprs ls) + length ls in
    let q = err_from_is_err_and c.from_residual-in_err-check_invariants.result c.from_residual-in_err-check_invariants.ensures.1 in
    let objects : os ≡ map referent vs = c.in_ok-objects.ensures ∙ ap (map referent) c.deref.ensures.value in
    let same = ap (closed_tests a.progress.now.heap) c.deref-2.ensures.value ∙ tests_closed a.progress.now.heap e.support os in
    let closed = subst (λ (ts : List Tested). Finds (Ok tt) (verdict a.at.now.line AtomicClosed ts)) same c.in_ok-check_closed.ensures in
    let ran = subst (λ (rs : List Ref). Lands (Follows now) (m.run_list p (context_at x a.at.now.context.now) rs a.body.now k m.no_tally g)) c.deref-3.ensures.value (c.in_ok-run_list.ensures m.no_tally k x e finite) in
    let plain = c.deref-5.ensures.value ∙ c.in_ok-plain.ensures ∙ ap (m.listed_objects ls) c.deref-4.ensures.value in
    let found = subst (λ (ts : List Tested). Finds (Err stop) (verdict a.at.now.line Invariant ts)) (λ j. inv_tests p (c.in_ok-before.ensures j) now.heap (plain j)) c.in_err-check_invariants.ensures in
    rw (q.1, q.2)
    (anyhow _ stop _
    (block_comes p s ls a.body.now n g vs os objects (c.in_ok-values.ensures n x e finite) closed now ran (Err stop) now
    (λ d fits. listed_stop p s a.body.now ls os a.progress.now.heap e.support (k + m.list_checks p a.body.now) now d stop found)))

pub returns-in_err-check_invariants-2 : goal.returns-in_err-check_invariants-2
returns-in_err-check_invariants-2 c n x e finite =
    let a = c.args in
    let p = a.at.now.program.now in
    let s = spot_at x a.at.now in
    let ls = a.listed.now in
    let vs = c.in_ok-values.values.items in
    let os = c.in_ok-objects.objects.items in
    let g = progress_at e a.progress.now in
    let now = c.run_list.new.progress in
    let stop = c.in_err-check_invariants-2.field-0.0 in
    let k = n + all_checks (m.listed_exprs ls) + length ls in
    let q = err_from_is_err_and c.from_residual-in_err-check_invariants-2.result c.from_residual-in_err-check_invariants-2.ensures.1 in
    let objects : os ≡ map referent vs = c.in_ok-objects.ensures ∙ ap (map referent) c.deref.ensures.value in
    let same = ap (closed_tests a.progress.now.heap) c.deref-2.ensures.value ∙ tests_closed a.progress.now.heap e.support os in
    let closed = subst (λ (ts : List Tested). Finds (Ok tt) (verdict a.at.now.line AtomicClosed ts)) same c.in_ok-check_closed.ensures in
    let ran = subst (λ (rs : List Ref). Lands (Follows now) (m.run_list p (context_at x a.at.now.context.now) rs a.body.now k m.no_tally g)) c.deref-3.ensures.value (c.in_ok-run_list.ensures m.no_tally k x e finite) in
    let plain = c.deref-5.ensures.value ∙ c.in_ok-plain.ensures ∙ ap (m.listed_objects ls) c.deref-4.ensures.value in
    let passed = subst (λ (ts : List Tested). Finds (Ok tt) (verdict a.at.now.line Invariant ts)) (λ j. inv_tests p (c.in_ok-before.ensures j) now.heap (plain j)) c.in_ok-check_invariants.ensures in
    let found = subst (λ (ts : List Tested). Finds (Err stop) (verdict a.at.now.line Invariant ts)) (λ j. inv_tests p (c.in_ok-before.ensures j) now.heap (c.deref-6.ensures.value j)) c.in_err-check_invariants-2.ensures in
    rw (q.1, q.2)
    (anyhow _ stop _
    (block_comes p s ls a.body.now n g vs os objects (c.in_ok-values.ensures n x e finite) closed now ran (Err stop) now
    (λ d fits. changed_stop p s a.body.now ls os a.progress.now.heap e.support (k + m.list_checks p a.body.now) now d passed stop found)))

pub returns-in_err-check_invariants-3 : goal.returns-in_err-check_invariants-3
returns-in_err-check_invariants-3 c n x e finite =
    let a = c.args in
    let p = a.at.now.program.now in
    let s = spot_at x a.at.now in
    let ls = a.listed.now in
    let vs = c.in_ok-values.values.items in
    let os = c.in_ok-objects.objects.items in
    let g = progress_at e a.progress.now in
    let now = c.run_list.new.progress in
    let stop = c.in_err-check_invariants-3.field-0.0 in
    let k = n + all_checks (m.listed_exprs ls) + length ls in
    let q = err_from_is_err_and c.from_residual-in_err-check_invariants-3.result c.from_residual-in_err-check_invariants-3.ensures.1 in
    let objects : os ≡ map referent vs = c.in_ok-objects.ensures ∙ ap (map referent) c.deref.ensures.value in
    let same = ap (closed_tests a.progress.now.heap) c.deref-2.ensures.value ∙ tests_closed a.progress.now.heap e.support os in
    let closed = subst (λ (ts : List Tested). Finds (Ok tt) (verdict a.at.now.line AtomicClosed ts)) same c.in_ok-check_closed.ensures in
    let ran = subst (λ (rs : List Ref). Lands (Follows now) (m.run_list p (context_at x a.at.now.context.now) rs a.body.now k m.no_tally g)) c.deref-3.ensures.value (c.in_ok-run_list.ensures m.no_tally k x e finite) in
    let plain = c.deref-5.ensures.value ∙ c.in_ok-plain.ensures ∙ ap (m.listed_objects ls) c.deref-4.ensures.value in
    let passed = subst (λ (ts : List Tested). Finds (Ok tt) (verdict a.at.now.line Invariant ts)) (λ j. inv_tests p (c.in_ok-before.ensures j) now.heap (plain j)) c.in_ok-check_invariants.ensures in
    let kept = subst (λ (ts : List Tested). Finds (Ok tt) (verdict a.at.now.line Invariant ts)) (λ j. inv_tests p (c.in_ok-before.ensures j) now.heap (c.deref-6.ensures.value j)) c.in_ok-check_invariants-2.ensures in
    let found = subst (λ (ts : List Tested). Finds (Err stop) (verdict a.at.now.line Invariant ts)) (λ j. inv_tests p (c.in_ok-before.ensures j) now.heap (c.deref-7.ensures.value j)) c.in_err-check_invariants-3.ensures in
    rw (q.1, q.2)
    (anyhow _ stop _
    (block_comes p s ls a.body.now n g vs os objects (c.in_ok-values.ensures n x e finite) closed now ran (Err stop) now
    (λ d fits. made_stop p s a.body.now ls os a.progress.now.heap e.support (k + m.list_checks p a.body.now) now d passed kept stop found)))

pub returns : goal.returns
returns c n x e finite =
    let a = c.args in
    let p = a.at.now.program.now in
    let s = spot_at x a.at.now in
    let ls = a.listed.now in
    let vs = c.in_ok-values.values.items in
    let os = c.in_ok-objects.objects.items in
    let g = progress_at e a.progress.now in
    let now = c.run_list.new.progress in
    let k = n + all_checks (m.listed_exprs ls) + length ls in
    let objects : os ≡ map referent vs = c.in_ok-objects.ensures ∙ ap (map referent) c.deref.ensures.value in
    let same = ap (closed_tests a.progress.now.heap) c.deref-2.ensures.value ∙ tests_closed a.progress.now.heap e.support os in
    let closed = subst (λ (ts : List Tested). Finds (Ok tt) (verdict a.at.now.line AtomicClosed ts)) same c.in_ok-check_closed.ensures in
    let ran = subst (λ (rs : List Ref). Lands (Follows now) (m.run_list p (context_at x a.at.now.context.now) rs a.body.now k m.no_tally g)) c.deref-3.ensures.value (c.in_ok-run_list.ensures m.no_tally k x e finite) in
    let plain = c.deref-5.ensures.value ∙ c.in_ok-plain.ensures ∙ ap (m.listed_objects ls) c.deref-4.ensures.value in
    let passed = subst (λ (ts : List Tested). Finds (Ok tt) (verdict a.at.now.line Invariant ts)) (λ j. inv_tests p (c.in_ok-before.ensures j) now.heap (plain j)) c.in_ok-check_invariants.ensures in
    let kept = subst (λ (ts : List Tested). Finds (Ok tt) (verdict a.at.now.line Invariant ts)) (λ j. inv_tests p (c.in_ok-before.ensures j) now.heap (c.deref-6.ensures.value j)) c.in_ok-check_invariants-2.ensures in
    let made = subst (λ (ts : List Tested). Finds (Ok tt) (verdict a.at.now.line Invariant ts)) (λ j. inv_tests p (c.in_ok-before.ensures j) now.heap (c.deref-7.ensures.value j)) c.in_ok-check_invariants-3.ensures in
    block_comes p s ls a.body.now n g vs os objects (c.in_ok-values.ensures n x e finite) closed now ran (Ok tt) now
    (λ d fits.
    let o = ends p s a.body.now ls os a.progress.now.heap e.support (k + m.list_checks p a.body.now) now d in
    lands_gives (Follows now) o (progress_at d now) (all_pass p s a.body.now ls os a.progress.now.heap e.support (k + m.list_checks p a.body.now) now d passed kept made) (record { extra = d; finite = fits; is = refl }))
