use Rattle.std.proofs.Common.{◌∙◌, sym, refl, ap}
use Rattle.std.proofs.lemmas.Result.{err_from_is_err_and}
use Rattle.object_types.specs.Heap.{put, put_at}
use Rattle.object_types.specs.Lookups.{look_up}
use Rattle.method.specs.Tables.{struct_of}
use Rattle.method.specs.Actions as m
use Rattle.machine_laws.proofs.Heaps.{put_finite}
use Rattle.machine_values.specs.Spots.{heap_at, spot_at}
use Rattle.machine_objects.specs.Runs.{progress_at, Leaves}
use Rattle.machine_objects.specs.RunsOut.{MallocRunsOut}
use Rattle.machine_objects.proofs.Landing.{heap_follows, silent_or}
use Rattle.machine_objects.proofs.Checks.{lands_gives}
use Rattle.machine_objects.proofs.Vacant.{empty}
use Rattle.machine_objects.proofs.Mallocs.{malloc_misfit, malloc_null, malloc_new, malloc_unnamed, malloc_unplaced}
use Rattle.machine_objects.proofs.objects.malloc.Goals as goal

pub returns-in_default : goal.returns-in_default
returns-in_default c n x e finite =
    let a = c.args in
    malloc_misfit a.at.now.program.now (spot_at x a.at.now) a.ty a.at.now.choices.now (progress_at e a.progress.now) (empty a.at.now.choices.now c.in_default.ensures.cases)

pub returns-then-not-is_true : goal.returns-then-not-is_true
returns-then-not-is_true c n x e finite =
    let a = c.args in
    let p = a.at.now.program.now in
    let s = spot_at x a.at.now in
    let g = progress_at e a.progress.now in
    lands_gives (Leaves _ _) (m.malloc p s a.ty a.at.now.choices.now g) _
    (malloc_null p s a.ty a.at.now.choices.now c.in-Some.contents.now c.in-Some.choice.now g c.in-Some.ensures.cases.0 (sym c.is_true.ensures ∙ c.if-not-is_true.true))
    (record { value = refl; starting = record { extra = e; finite = finite; is = refl } })

pub returns-in_err-o : goal.returns-in_err-o
returns-in_err-o c n x e finite =
    let a = c.args in
    let p = a.at.now.program.now in
    let g = progress_at e a.progress.now in
    let q = err_from_is_err_and c.from_residual.result c.from_residual.ensures.1 in
    rw (q.1, q.2)
    (silent_or _ (MallocRunsOut p a.ty a.at.now.choices.now g) c.in_err-o.field-0.0 _
    (λ none. malloc_unnamed p (spot_at x a.at.now) a.ty a.at.now.choices.now c.in-Some.contents.now c.in-Some.choice.now g c.in-Some.ensures.cases.0 (none e.support finite))
    c.in_err-o.ensures.err)

pub returns-in_err-place_object : goal.returns-in_err-place_object
returns-in_err-place_object c n x e finite =
    let a = c.args in
    let p = a.at.now.program.now in
    let g = progress_at e a.progress.now in
    let q = err_from_is_err_and c.from_residual-in_err-place_object.result c.from_residual-in_err-place_object.ensures.1 in
    rw (q.1, q.2)
    (silent_or _ (MallocRunsOut p a.ty a.at.now.choices.now g) c.in_err-place_object.field-0.0 _
    (malloc_unplaced p (spot_at x a.at.now) a.ty a.at.now.choices.now c.in-Some.contents.now c.in-Some.choice.now g c.in-Some.ensures.cases.0 c.first_field.result c.first_field.ensures)
    c.in_err-place_object.ensures.err)

pub returns : goal.returns
unfolding put
returns c n x e finite =
    let a = c.args in
    let p = a.at.now.program.now in
    let s = spot_at x a.at.now in
    let h = heap_at e.support a.progress.now.heap in
    let o = c.in_ok-o.o in
    let contents = c.in-Some.contents.now in
    let new = m.new_object s.context.me (m.first_field (struct_of p a.ty)) contents in
    lands_gives (Leaves _ _) (m.malloc p s a.ty a.at.now.choices.now (progress_at e a.progress.now)) _
    (malloc_new p s a.ty a.at.now.choices.now contents c.in-Some.choice.now e a.progress.now o c.in-Some.ensures.cases.0 (sym c.is_true.ensures ∙ c.if-not-is_true.false) (c.in_ok-o.ensures.fresh e.support finite))
    (record {
      value = refl;
      starting = heap_follows e a.progress.now _ (put h o new)
          (ap (λ first. put_at (look_up a.progress.now.heap) o (m.new_object s.context.me first contents)) (sym c.first_field.ensures) ∙ sym c.in_ok-place_object.ensures.ok)
          (put_finite h o new finite) refl;
    })
