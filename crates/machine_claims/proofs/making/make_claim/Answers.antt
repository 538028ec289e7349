use Rattle.std.proofs.Common.{◌+◌, ◌⊎◌, pos, ◌++◌, ◌∙◌, List, [], ◌∷◌, length, map, refl, sym, ap, subst, Some, Err}
use Rattle.std.proofs.lemmas.Result.{err_from_is_err_and}
use Rattle.object_types.specs.declared.references.Ref.{Ref}
use Rattle.object_types.specs.Lookups.{heap_of}
use Rattle.method.specs.declared.program.CheckKind.TheVariants.{MakeClaim}
use Rattle.method.specs.SpecValue.{entry_of}
use Rattle.method.specs.Expressions.{scene}
use Rattle.method.specs.Actions as m
use Rattle.claims.specs.Making.{with_claim}
use Rattle.claims.specs.Steps.{Overflows}
use Rattle.machine_values.specs.Spots.{heap_at, spot_at}
use Rattle.machine_values.specs.Answers.{verdict, plain, Finds}
use Rattle.machine_values.proofs.Outcomes.{anyhow}
use Rattle.machine_objects.specs.Runs.{progress_at, place_of, IsSilentOr}
use Rattle.machine_objects.specs.RunsOut.{NoReference}
use Rattle.machine_objects.proofs.Landing.{silent_or, behind_gives}
use Rattle.machine_claims.specs.RunsOut.{LacksClaim, MakingRunsOut}
use Rattle.machine_claims.proofs.Made.{claimed_stops, made, behind, made_stops, made_gives, made_heap, made_finite, noted_follows, made_lands}
use Rattle.machine_claims.proofs.making.make_claim.Goals as goal

pub returns-in_err-check_claimed : goal.returns-in_err-check_claimed
returns-in_err-check_claimed c t n y e finite =
    let a = c.args in
    let p = a.at.now.program.now in
    let s = spot_at y a.at.now in
    let site = a.site.now in
    let place = place_of a.place in
    let old = a.progress.now in
    let h = heap_at e.support old.heap in
    let os = c.in_ok-objects.objects.items in
    let claimed = ap (λ cs. m.run_claimed p s cs n (progress_at e old)) (sym c.deref.ensures.value) ∙ c.in_ok-objects.ensures n y e finite in
    let stop = c.in_err-check_claimed.field-0.0 in
    let r = err_from_is_err_and c.from_residual-in_err-check_claimed.result c.from_residual-in_err-check_claimed.ensures.1 in
    rw (r.1, r.2)
    (anyhow _ stop _
    (claimed_stops p s site place n t e old os claimed stop
    (subst (λ (qs : List Ref). Finds (Err stop) (verdict s.line MakeClaim (map plain (m.claim_tests p s h [] qs)))) c.deref-4.ensures.value (c.in_err-check_claimed.ensures y e.support))))

pub returns-in_err-c : goal.returns-in_err-c
returns-in_err-c c t n y e finite =
    let a = c.args in
    let p = a.at.now.program.now in
    let s = spot_at y a.at.now in
    let site = a.site.now in
    let old = a.progress.now in
    let os = c.in_ok-objects.objects.items in
    let claimed = ap (λ cs. m.run_claimed p s cs n (progress_at e old)) (sym c.deref.ensures.value) ∙ c.in_ok-objects.ensures n y e finite in
    let stop = c.in_err-c.field-0.0 in
    let r = err_from_is_err_and c.from_residual-in_err-c.result c.from_residual-in_err-c.ensures.1 in
    rw (r.1, r.2)
    (silent_or (LacksClaim old.heap os) (MakingRunsOut p s (Some site) n (progress_at e old)) stop _
    (λ lacks. behind_gives (m.run_claimed p s site.claimed.items n (progress_at e old)) os (λ qs. NoReference (heap_at e.support old.heap) 2 ⊎ Overflows (pos 1) qs (heap_at e.support old.heap)) claimed (lacks e.support finite))
    (subst (λ (qs : List Ref). IsSilentOr (LacksClaim old.heap qs) stop) c.deref-5.ensures.value c.in_err-c.ensures.err))

pub returns-in_err-check_new_claim : goal.returns-in_err-check_new_claim
returns-in_err-check_new_claim c t n y e finite =
    let a = c.args in
    let p = a.at.now.program.now in
    let s = spot_at y a.at.now in
    let site = a.site.now in
    let place = place_of a.place in
    let old = a.progress.now in
    let h = heap_at e.support old.heap in
    let os = c.in_ok-objects.objects.items in
    let claimed = ap (λ cs. m.run_claimed p s cs n (progress_at e old)) (sym c.deref.ensures.value) ∙ c.in_ok-objects.ensures n y e finite in
    let passes = ap (λ (qs : List Ref). verdict s.line MakeClaim (map plain (m.claim_tests p s h [] qs))) (sym c.deref-4.ensures.value) ∙ c.in_ok-check_claimed.ensures y e.support in
    let entries = map (entry_of (scene s.context h old.locals.items)) site.conjuncts.items in
    let filled = c.in_ok-entries.ensures y h ∙ (λ i. map (entry_of (scene s.context h (c.deref-2.ensures.value i))) (c.deref-3.ensures.value i)) in
    let o = c.in_ok-c.c in
    let is = c.in_ok-c.ensures.fresh e.support finite in
    let now = c.new_claim.new.h in
    let with_it = c.in_ok-c.ensures.ok ∙ (λ i. (with_claim o s.context.me (c.deref-5.ensures.value i) (c.deref-6.ensures.value i) (heap_of old.heap)).get) in
    let here = made_heap p e old os o s.context.me c.in_ok-entries.entries.items entries now filled with_it in
    let there = made p s site place n t e old os claimed passes o is in
    let r = err_from_is_err_and c.from_residual-in_err-check_new_claim.result c.from_residual-in_err-check_new_claim.ensures.1 in
    rw (r.1, r.2)
    (anyhow _ c.in_err-check_new_claim.field-0.0 _
    (made_stops p s site place n t e old os claimed passes o is c.deref-7.result.now c.deref-8.result.now c.in_ok-before.before now c.deref-7.ensures.value (c.deref-8.ensures.value ∙ filled) c.in_ok-before.ensures here c.in_err-check_new_claim.field-0.0
    (c.in_err-check_new_claim.ensures (n + m.claimed_checks site.claimed.items + length os + 1) y e.support there.support)))

pub returns : goal.returns
returns c t n y e finite =
    let a = c.args in
    let p = a.at.now.program.now in
    let s = spot_at y a.at.now in
    let site = a.site.now in
    let place = place_of a.place in
    let old = a.progress.now in
    let h = heap_at e.support old.heap in
    let os = c.in_ok-objects.objects.items in
    let claimed = ap (λ cs. m.run_claimed p s cs n (progress_at e old)) (sym c.deref.ensures.value) ∙ c.in_ok-objects.ensures n y e finite in
    let passes = ap (λ (qs : List Ref). verdict s.line MakeClaim (map plain (m.claim_tests p s h [] qs))) (sym c.deref-4.ensures.value) ∙ c.in_ok-check_claimed.ensures y e.support in
    let entries = map (entry_of (scene s.context h old.locals.items)) site.conjuncts.items in
    let filled = c.in_ok-entries.ensures y h ∙ (λ i. map (entry_of (scene s.context h (c.deref-2.ensures.value i))) (c.deref-3.ensures.value i)) in
    let o = c.in_ok-c.c in
    let is = c.in_ok-c.ensures.fresh e.support finite in
    let now = c.new_claim.new.h in
    let with_it = c.in_ok-c.ensures.ok ∙ (λ i. (with_claim o s.context.me (c.deref-5.ensures.value i) (c.deref-6.ensures.value i) (heap_of old.heap)).get) in
    let here = made_heap p e old os o s.context.me c.in_ok-entries.entries.items entries now filled with_it in
    let there = made p s site place n t e old os claimed passes o is in
    let told = c.in_ok-note_claim.ensures in
    let follows = noted_follows e old c.note_claim.new.progress now there t.objects t.claims os (o ∷ []) here (made_finite h os o (m.new_claim s.context.me os entries) finite)
    (told.changed ∙ ap (λ (qs : List Ref). old.changed.items ++ qs) c.deref-9.ensures.value) told.made told.rest in
    made_lands c.note_claim.new.progress o (m.make_claim p s (Some site) place n t (progress_at e old)) (behind p s site place n t e old os claimed passes o is)
    (made_gives p s site place n t e old os claimed passes o is c.deref-7.result.now c.deref-8.result.now c.in_ok-before.before now c.deref-7.ensures.value (c.deref-8.ensures.value ∙ filled) c.in_ok-before.ensures here
    (c.in_ok-check_new_claim.ensures (n + m.claimed_checks site.claimed.items + length os + 1) y e.support there.support))
    refl follows
