use Rattle.std.proofs.Common.{◌∙◌, sym, ap, refl, map}
use Rattle.std.proofs.lemmas.Result.{err_from_is_err_and}
use Rattle.object_types.specs.Sets.{set_of}
use Rattle.object_types.specs.Values.{referent}
use Rattle.object_types.specs.Heap.{put, put_at}
use Rattle.object_types.specs.Lookups.{look_up}
use Rattle.method.specs.declared.program.OwnsChange.TheVariants.{Assigned}
use Rattle.method.specs.Expressions.{Gives}
use Rattle.method.specs.Actions as m
use Rattle.machine_laws.proofs.Heaps.{put_finite}
use Rattle.machine_values.specs.Spots.{spot_at}
use Rattle.machine_objects.specs.Runs.{progress_at, Follows}
use Rattle.machine_objects.proofs.Landing.{heap_follows}
use Rattle.machine_objects.proofs.Checks.{lands_gives}
use Rattle.machine_ownership.specs.Owned.{owning}
use Rattle.machine_ownership.proofs.owned.assign_members.Goals as goal

pub returns-in_err-check_owner : goal.returns-in_err-check_owner
returns-in_err-check_owner c n y e finite =
    let a = c.args in
    let g = progress_at e a.progress.now in
    let p = err_from_is_err_and c.from_residual.result c.from_residual.ensures.1 in
    rw (p.1, p.2) (c.in_err-check_owner.ensures n y e.support finite (Gives (m.heap_of g (put g.heap a.o (owning (g.heap.get a.o) (set_of (map referent a.values.now)))))))

pub returns : goal.returns
unfolding put
returns c n y e finite =
    let a = c.args in
    let s = spot_at y a.at.now in
    let g = progress_at e a.progress.now in
    let r = owning (g.heap.get a.o) (set_of (map referent a.values.now)) in
    let k = put g.heap a.o r in
    lands_gives (Follows _) (m.owned_change a.at.now.program.now s Assigned a.o a.values.now n g) _
    (c.in_ok-check_owner.ensures n y e.support finite (Gives (m.heap_of g k)))
    (heap_follows e a.progress.now _ k
    (sym (c.in_ok-assign_owned.ensures ∙ ap (λ os. put_at (look_up a.progress.now.heap) a.o (owning (look_up a.progress.now.heap a.o) (set_of os))) (c.deref.ensures.value ∙ c.in_ok-members.ensures)))
    (put_finite g.heap a.o r finite) refl)
