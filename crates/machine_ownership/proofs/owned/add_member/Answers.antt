use Rattle.std.proofs.Common.{◌+◌, ◌∙◌, [], ◌∷◌, sym, refl, subst}
use Rattle.std.proofs.lemmas.Result.{err_from_is_err_and}
use Rattle.object_types.specs.Sets.{with_member}
use Rattle.object_types.specs.Heap.{put, hand_over}
use Rattle.method.specs.declared.program.OwnsChange.TheVariants.{Added}
use Rattle.method.specs.Expressions.{Gives}
use Rattle.method.specs.Actions as m
use Rattle.machine_laws.proofs.Heaps.{put_finite, hand_finite}
use Rattle.machine_values.specs.Answers.{Stops}
use Rattle.machine_values.specs.Spots.{spot_at}
use Rattle.machine_objects.specs.Runs.{progress_at, Follows}
use Rattle.machine_objects.proofs.Landing.{heap_follows}
use Rattle.machine_objects.proofs.Checks.{lands_gives}
use Rattle.machine_ownership.specs.Owned.{is_owned, owner_checks}
use Rattle.machine_ownership.proofs.Changing.{change_outside, change_unlisted, change_refused, change_passes, with_one, joins}
use Rattle.machine_ownership.proofs.owned.add_member.Goals as goal

pub returns-in_err-check_owner : goal.returns-in_err-check_owner
returns-in_err-check_owner c n y e finite =
    let a = c.args in
    let s = spot_at y a.at.now in
    let g = progress_at e a.progress.now in
    let more = Gives (m.heap_of g (with_one a.o a.q g)) in
    let p = err_from_is_err_and c.from_residual.result c.from_residual.ensures.1 in
    rw (p.1, p.2)
    (subst (Stops c.in_err-check_owner.field-0.0) (sym (change_outside s a.o (is_owned s g.heap a.q) n (joins a.o a.q g) (owner_checks s g.heap a.o n more) c.if-not-at.true))
    (c.in_err-check_owner.ensures n y e.support finite more))

pub returns-then-not-at : goal.returns-then-not-at
unfolding put
returns-then-not-at c n y e finite =
    let a = c.args in
    let s = spot_at y a.at.now in
    let g = progress_at e a.progress.now in
    let more = Gives (m.heap_of g (with_one a.o a.q g)) in
    lands_gives (Follows _) (m.member_change a.at.now.program.now s Added a.o a.q n g) _
    (change_outside s a.o (is_owned s g.heap a.q) n (joins a.o a.q g) (owner_checks s g.heap a.o n more) c.if-not-at.true ∙ c.in_ok-check_owner.ensures n y e.support finite more)
    (heap_follows e a.progress.now _ (with_one a.o a.q g) (sym c.in_ok-set_owned.ensures.ok) (put_finite g.heap a.o (record (g.heap.get a.o) { owned = with_member a.q (g.heap.get a.o).owned }) finite) refl)

pub returns-then-not-is_listed : goal.returns-then-not-is_listed
returns-then-not-is_listed c n y e finite =
    let a = c.args in
    let s = spot_at y a.at.now in
    let g = progress_at e a.progress.now in
    rw c.fault.ensures (n, change_unlisted s a.o (is_owned s g.heap a.q) n (joins a.o a.q g) (owner_checks s g.heap a.o n (Gives (m.heap_of g (with_one a.o a.q g)))) c.if-not-at.false (sym (c.is_listed.ensures y) ∙ c.if-not-is_listed.true))

pub returns-then-not-is_owned : goal.returns-then-not-is_owned
returns-then-not-is_owned c n y e finite =
    let a = c.args in
    let s = spot_at y a.at.now in
    let g = progress_at e a.progress.now in
    rw c.fault-then-not-is_owned.ensures (n + 1, change_refused s a.o (is_owned s g.heap a.q) n (joins a.o a.q g) (owner_checks s g.heap a.o n (Gives (m.heap_of g (with_one a.o a.q g)))) c.if-not-at.false (sym (c.is_listed.ensures y) ∙ c.if-not-is_listed.false) (sym (c.is_owned.ensures y e.support) ∙ c.if-not-is_owned.true))

pub returns : goal.returns
unfolding put hand_over
returns c n y e finite =
    let a = c.args in
    let s = spot_at y a.at.now in
    let g = progress_at e a.progress.now in
    lands_gives (Follows _) (m.member_change a.at.now.program.now s Added a.o a.q n g) _
    (change_passes s a.o (is_owned s g.heap a.q) n (joins a.o a.q g) (owner_checks s g.heap a.o n (Gives (m.heap_of g (with_one a.o a.q g)))) c.if-not-at.false (sym (c.is_listed.ensures y) ∙ c.if-not-is_listed.false) (sym (c.is_owned.ensures y e.support) ∙ c.if-not-is_owned.false))
    (heap_follows e a.progress.now _ (hand_over (with_one a.o a.q g) (a.q ∷ []) a.o) (sym c.in_ok-give.ensures.ok) (hand_finite (with_one a.o a.q g) (a.q ∷ []) a.o (put_finite g.heap a.o (record (g.heap.get a.o) { owned = with_member a.q (g.heap.get a.o).owned }) finite)) refl)
