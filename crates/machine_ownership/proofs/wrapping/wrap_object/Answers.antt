use Rattle.std.proofs.Common.{◌+◌, ◌∙◌, Err, sym, ap, refl, subst}
use Rattle.std.proofs.lemmas.Result.{err_from_is_err_and}
use Rattle.object_types.specs.Sets.{every}
use Rattle.object_types.specs.Heap.{put, hand_over}
use Rattle.object_types.specs.declared.records.Mode.TheVariants.{Closed}
use Rattle.method.specs.Expressions.{Tested}
use Rattle.method.specs.Actions as m
use Rattle.machine_laws.proofs.Heaps.{put_finite, hand_finite}
use Rattle.machine_values.specs.Answers.{Tests}
use Rattle.machine_values.specs.Spots.{spot_at}
use Rattle.machine_objects.specs.Runs.{progress_at, Follows}
use Rattle.machine_objects.proofs.Landing.{heap_follows}
use Rattle.machine_objects.proofs.Checks.{lands_gives}
use Rattle.machine_ownership.specs.Owned.{is_owned}
use Rattle.machine_ownership.proofs.Wraps.{wrap_no_writes, wrap_stops, wrap_not_owned, wrap_untested, wrap_no_invariant, wrap_gives, closed_up, closed_is, test_is}
use Rattle.machine_ownership.proofs.wrapping.wrap_object.Goals as goal

pub returns-then-not-may_write : goal.returns-then-not-may_write
returns-then-not-may_write c n y e finite =
    let a = c.args in
    let p = a.at.now.program.now in
    let s = spot_at y a.at.now in
    let g = progress_at e a.progress.now in
    let is_open = sym c.mutable.ensures ∙ c.if-not-mutable.false in
    rw c.fault-then-not-may_write.ensures (n + 1, wrap_no_writes p s a.ty a.o n g is_open (sym (c.may_write.ensures y) ∙ c.if-not-may_write.true))

pub returns-in_err-members : goal.returns-in_err-members
returns-in_err-members c n y e finite =
    let a = c.args in
    let p = a.at.now.program.now in
    let s = spot_at y a.at.now in
    let g = progress_at e a.progress.now in
    let is_open = sym c.mutable.ensures ∙ c.if-not-mutable.false in
    let writes = sym (c.may_write.ensures y) ∙ c.if-not-may_write.false in
    let q = err_from_is_err_and c.from_residual.result c.from_residual.ensures.1 in
    rw (q.1, q.2) (wrap_stops p s a.ty a.o n g is_open writes c.in_err-members.field-0.0 _ (c.in_err-members.ensures.set y e.support finite))

pub returns-then-not-all_owned : goal.returns-then-not-all_owned
returns-then-not-all_owned c n y e finite =
    let a = c.args in
    let p = a.at.now.program.now in
    let s = spot_at y a.at.now in
    let g = progress_at e a.progress.now in
    let is_open = sym c.mutable.ensures ∙ c.if-not-mutable.false in
    let writes = sym (c.may_write.ensures y) ∙ c.if-not-may_write.false in
    let set = c.in_ok-members.ensures.set y e.support finite in
    let owned = ap (every (is_owned s g.heap)) (sym (c.deref.ensures.value ∙ set.1)) ∙ sym (c.all_owned.ensures y e.support) ∙ c.if-not-all_owned.true in
    rw c.fault-then-not-all_owned.ensures (n + 2, wrap_not_owned p s a.ty a.o n g is_open writes set.0 owned)

pub returns-in_err-inv_test : goal.returns-in_err-inv_test
returns-in_err-inv_test c n y e finite =
    let a = c.args in
    let p = a.at.now.program.now in
    let s = spot_at y a.at.now in
    let g = progress_at e a.progress.now in
    let is_open = sym c.mutable.ensures ∙ c.if-not-mutable.false in
    let writes = sym (c.may_write.ensures y) ∙ c.if-not-may_write.false in
    let set = c.in_ok-members.ensures.set y e.support finite in
    let owned = ap (every (is_owned s g.heap)) (sym (c.deref.ensures.value ∙ set.1)) ∙ sym (c.all_owned.ensures y e.support) ∙ c.if-not-all_owned.false in
    let test = test_is p s a.ty a.o n e a.progress.now _ _ c.in_ok-members.members.items c.deref-2.result.now c.in_ok-members.ensures.ordered set.1 c.deref-2.ensures.value c.in_ok-assign_owned.ensures c.in_ok-close_object.ensures.ok _ c.in_ok-before.ensures in
    let q = err_from_is_err_and c.from_residual-in_err-inv_test.result c.from_residual-in_err-inv_test.ensures.1 in
    rw (q.1, q.2) (wrap_untested p s a.ty a.o n g is_open writes set.0 owned c.in_err-inv_test.field-0.0 (subst (Tests (Err c.in_err-inv_test.field-0.0)) (sym test) c.in_err-inv_test.ensures))

pub returns-then-not-branch : goal.returns-then-not-branch
returns-then-not-branch c n y e finite =
    let a = c.args in
    let p = a.at.now.program.now in
    let s = spot_at y a.at.now in
    let g = progress_at e a.progress.now in
    let is_open = sym c.mutable.ensures ∙ c.if-not-mutable.false in
    let writes = sym (c.may_write.ensures y) ∙ c.if-not-may_write.false in
    let set = c.in_ok-members.ensures.set y e.support finite in
    let owned = ap (every (is_owned s g.heap)) (sym (c.deref.ensures.value ∙ set.1)) ∙ sym (c.all_owned.ensures y e.support) ∙ c.if-not-all_owned.false in
    let test = test_is p s a.ty a.o n e a.progress.now _ _ c.in_ok-members.members.items c.deref-2.result.now c.in_ok-members.ensures.ordered set.1 c.deref-2.ensures.value c.in_ok-assign_owned.ensures c.in_ok-close_object.ensures.ok _ c.in_ok-before.ensures in
    rw c.fault-then-not-branch.ensures
    (n + 3, wrap_no_invariant p s a.ty a.o n g is_open writes set.0 owned (ap (λ (t : Tested). t.overflow) test ∙ c.in_ok-inv_test.ensures.0) (ap (λ (t : Tested). t.holds) test ∙ sym c.in_ok-inv_test.ensures.1 ∙ c.if-not-branch.true))

pub returns : goal.returns
unfolding put hand_over
returns c n y e finite =
    let a = c.args in
    let p = a.at.now.program.now in
    let s = spot_at y a.at.now in
    let g = progress_at e a.progress.now in
    let is_open = sym c.mutable.ensures ∙ c.if-not-mutable.false in
    let writes = sym (c.may_write.ensures y) ∙ c.if-not-may_write.false in
    let set = c.in_ok-members.ensures.set y e.support finite in
    let owned = ap (every (is_owned s g.heap)) (sym (c.deref.ensures.value ∙ set.1)) ∙ sym (c.all_owned.ensures y e.support) ∙ c.if-not-all_owned.false in
    let test = test_is p s a.ty a.o n e a.progress.now _ _ c.in_ok-members.members.items c.deref-2.result.now c.in_ok-members.ensures.ordered set.1 c.deref-2.ensures.value c.in_ok-assign_owned.ensures c.in_ok-close_object.ensures.ok _ c.in_ok-before.ensures in
    let k = closed_up p s a.ty a.o n g in
    lands_gives (Follows _) (m.wrap_object p s a.ty a.o n g) _
    (wrap_gives p s a.ty a.o n g is_open writes set.0 owned (ap (λ (t : Tested). t.overflow) test ∙ c.in_ok-inv_test.ensures.0) (ap (λ (t : Tested). t.holds) test ∙ sym c.in_ok-inv_test.ensures.1 ∙ c.if-not-branch.false))
    (heap_follows e a.progress.now _ k
    (closed_is p s a.ty a.o n e a.progress.now _ _ c.in_ok-members.members.items c.deref-2.result.now c.in_ok-members.ensures.ordered set.1 c.deref-2.ensures.value c.in_ok-assign_owned.ensures c.in_ok-close_object.ensures.ok)
    (hand_finite (put g.heap a.o (record (g.heap.get a.o) { mode = Closed; owned = m.wrapped_set p s a.ty g.heap a.o })) (m.wrapped_set p s a.ty g.heap a.o) a.o (put_finite g.heap a.o (record (g.heap.get a.o) { mode = Closed; owned = m.wrapped_set p s a.ty g.heap a.o }) finite))
    refl)
