use Rattle.std.proofs.Common.{◌≡◌, subst}
use Rattle.std.proofs.lemmas.Result.{err_from_is_err_and}
use Rattle.object_types.specs.declared.values.Value.TheVariants.{Ref as Refers}
use Rattle.object_types.specs.Heap.{Heap}
use Rattle.method.specs.Expressions.{Outcome}
use Rattle.method.specs.Actions.{Valued, stored_heap}
use Rattle.machine_values.specs.Spots.{heap_at, spot_at}
use Rattle.machine_values.specs.Answers.{Stops}
use Rattle.machine_objects.specs.Runs.{place_of}
use Rattle.machine_claims.specs.Claiming.{Guards, claim_checked}
use Rattle.machine_claims.proofs.Guarding.{made_inside, conjunct_stops, made_guards}
use Rattle.machine_claims.proofs.making.check_new_claim.Goals as goal

pub returns-then-at : goal.returns-then-at
returns-then-at c n x y z =
    let a = c.args in
    let after = stored_heap (place_of a.place) (Refers a.c) (heap_at z a.after.now) in
    made_inside Valued a.at.now.program.now (spot_at x a.at.now) a.objects.now a.entries.now (heap_at y a.before.now) after n c.if-at.true

pub returns-in_err-check_entries : goal.returns-in_err-check_entries
returns-in_err-check_entries c n x y z =
    let a = c.args in
    let p = a.at.now.program.now in
    let s = spot_at x a.at.now in
    let before = heap_at y a.before.now in
    let after = stored_heap (place_of a.place) (Refers a.c) (heap_at z a.after.now) in
    let stored = c.in_ok-stored.stored in
    let alike : heap_at after.support stored ≡ after = λ i. record { get = c.in_ok-stored.ensures z i; support = after.support } in
    let stop = c.in_err-check_entries.field-0.0 in
    let r = err_from_is_err_and c.from_residual-in_err-check_entries.result c.from_residual-in_err-check_entries.ensures.1 in
    rw (r.1, r.2)
    (subst (λ (h : Heap). (o : Outcome Valued) → Stops stop (claim_checked p s a.objects.now a.entries.now before h n o)) alike
    (conjunct_stops Valued p s a.objects.now a.entries.now a.before.now stored y after.support n c.if-at.false stop c.in_err-check_entries.ensures))

pub returns : goal.returns
returns c n x y z =
    let a = c.args in
    let p = a.at.now.program.now in
    let s = spot_at x a.at.now in
    let before = heap_at y a.before.now in
    let after = stored_heap (place_of a.place) (Refers a.c) (heap_at z a.after.now) in
    let stored = c.in_ok-stored.stored in
    let alike : heap_at after.support stored ≡ after = λ i. record { get = c.in_ok-stored.ensures z i; support = after.support } in
    subst (λ (h : Heap). Guards {A = Valued} c.check_invariants.result (claim_checked p s a.objects.now a.entries.now before h n)) alike
    (made_guards Valued p s a.objects.now a.entries.now a.before.now stored y after.support n c.if-at.false c.in_ok-check_entries.ensures c.check_invariants.result c.check_invariants.ensures)
