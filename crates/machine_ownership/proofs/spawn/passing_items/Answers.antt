use Rattle.std.proofs.Common.{◌∙◌, ◌++◌, ◌∷◌, [], List, Err, refl, sym, ap, subst}
use Rattle.std.proofs.lemmas.Result.{err_from_is_err_and}
use Rattle.object_types.specs.Values.{referent}
use Rattle.method.specs.declared.program.CheckKind.TheVariants.{Spawn}
use Rattle.method.specs.declared.program.Spec.{Spec}
use Rattle.method.specs.SpecValue.{value}
use Rattle.method.specs.Overflow.{overflow}
use Rattle.method.specs.Expressions.{Tested, item_tests}
use Rattle.machine_values.specs.Spots.{heap_at, spot_at}
use Rattle.machine_values.specs.Answers.{Worked, Finds, verdict}
use Rattle.machine_values.specs.Testing.{code_scene}
use Rattle.machine_values.proofs.Verdicts.{test_next, test_fails, test_stops, test_end}
use Rattle.machine_ownership.specs.Owned.{is_owned}
use Rattle.machine_ownership.proofs.Scenes.{call_items, call_item_tests}
use Rattle.machine_ownership.proofs.Naming.{named_none, named_next, named_all, works_tested}
use Rattle.machine_ownership.proofs.spawn.passing_items.Goals as goal

pub loop-e-init : goal.loop-e-init
loop-e-init c =
    let a = c.args in
    let p = a.at.now.program.now in
    let env = c.in_ok-env.env in
    let s = code_scene env a.h.now a.h.now in
    record { named = named_none p a.items.now s _ c.new-objects.ensures.items; so_far = λ x y. refl }

pub loop-e-preserved : goal.loop-e-preserved
loop-e-preserved c =
    let a = c.args in
    let p = a.at.now.program.now in
    let env = c.in_ok-env.env in
    let s = code_scene env a.h.now a.h.now in
    record {
      named = named_next p a.items.now s c.loop-e.e-index _ c.loop-e-test.true c.loop-e.objects.items c.loop-e.invariant.named _ c.in_ok-spec_value.field-0 (ap (λ e. overflow p e s) (sym c.e-item.is) ∙ c.in_ok-spec_value.ensures.0) (c.in_ok-spec_value.ensures.1 ∙ ap (λ e. value p e s) c.e-item.is) (c.in_ok-push.ensures.items ∙ ap (λ o. c.loop-e.objects.items ++ o ∷ []) c.referent-o.ensures);
      so_far = λ x y.
          let owned = is_owned (spot_at x a.at.now) (heap_at y a.h.now) in
          let test : Spec → Tested = λ (e : Spec). record { overflow = overflow p e s; holds = owned (referent (value p e s)) } in
          let all = verdict a.at.now.line Spawn (item_tests p owned a.items.now s) in
          test_next test a.items.now a.at.now.line Spawn all c.loop-e.e-index c.e-item.result (c.loop-e.invariant.so_far x y) c.loop-e-test.true
          (ap (λ e. overflow p e s) (sym c.e-item.is) ∙ c.in_ok-spec_value.ensures.0)
          (ap owned (sym (c.referent-o.ensures ∙ ap referent (c.in_ok-spec_value.ensures.1 ∙ ap (λ e. value p e s) c.e-item.is))) ∙ sym (c.is_owned.ensures x y) ∙ c.if-not-is_owned.false);
    }

pub returns-in_err-spec_value : goal.returns-in_err-spec_value
returns-in_err-spec_value c x y finite =
    let a = c.args in
    let p = a.at.now.program.now in
    let env = c.in_ok-env.env in
    let s = code_scene env a.h.now a.h.now in
    let owned = is_owned (spot_at x a.at.now) (heap_at y a.h.now) in
    let test : Spec → Tested = λ (e : Spec). record { overflow = overflow p e s; holds = owned (referent (value p e s)) } in
    let all = verdict a.at.now.line Spawn (item_tests p owned a.items.now s) in
    let tests = call_item_tests p env a.at.now.context.now.me a.args.now c.in_ok-env.ensures.ok a.h.now y owned a.items.now in
    let q = err_from_is_err_and c.from_residual-in_err-spec_value.result c.from_residual-in_err-spec_value.ensures.1 in
    rw (q.1, q.2)
    (subst (λ (ts : List Tested). Finds (Err c.in_err-spec_value.field-0.0) (verdict a.at.now.line Spawn ts)) tests
    (test_stops test a.items.now a.at.now.line Spawn all c.loop-e.e-index c.e-item.result (c.loop-e.invariant.so_far x y) c.loop-e-test.true c.in_err-spec_value.field-0.0
    (works_tested c.in_err-spec_value.field-0.0 _ _ (subst (λ e. Worked (Err c.in_err-spec_value.field-0.0) (overflow p e s) (value p e s)) c.e-item.is c.in_err-spec_value.ensures))))

pub returns-then-not-is_owned : goal.returns-then-not-is_owned
returns-then-not-is_owned c x y finite =
    let a = c.args in
    let p = a.at.now.program.now in
    let env = c.in_ok-env.env in
    let s = code_scene env a.h.now a.h.now in
    let owned = is_owned (spot_at x a.at.now) (heap_at y a.h.now) in
    let test : Spec → Tested = λ (e : Spec). record { overflow = overflow p e s; holds = owned (referent (value p e s)) } in
    let all = verdict a.at.now.line Spawn (item_tests p owned a.items.now s) in
    let tests = call_item_tests p env a.at.now.context.now.me a.args.now c.in_ok-env.ensures.ok a.h.now y owned a.items.now in
    rw c.fault.ensures
    (sym (ap (verdict a.at.now.line Spawn) tests) ∙ test_fails test a.items.now a.at.now.line Spawn all c.loop-e.e-index c.e-item.result (c.loop-e.invariant.so_far x y) c.loop-e-test.true
    (ap (λ e. overflow p e s) (sym c.e-item.is) ∙ c.in_ok-spec_value.ensures.0)
    (ap owned (sym (c.referent-o.ensures ∙ ap referent (c.in_ok-spec_value.ensures.1 ∙ ap (λ e. value p e s) c.e-item.is))) ∙ sym (c.is_owned.ensures x y) ∙ c.if-not-is_owned.true))

pub returns : goal.returns
returns c x y finite =
    let a = c.args in
    let p = a.at.now.program.now in
    let env = c.in_ok-env.env in
    let s = code_scene env a.h.now a.h.now in
    let owned = is_owned (spot_at x a.at.now) (heap_at y a.h.now) in
    let test : Spec → Tested = λ (e : Spec). record { overflow = overflow p e s; holds = owned (referent (value p e s)) } in
    let all = verdict a.at.now.line Spawn (item_tests p owned a.items.now s) in
    let tests = call_item_tests p env a.at.now.context.now.me a.args.now c.in_ok-env.ensures.ok a.h.now y owned a.items.now in (
      sym (ap (verdict a.at.now.line Spawn) tests) ∙ test_end test a.items.now a.at.now.line Spawn all c.loop-e.e-index (c.loop-e.invariant.so_far x y) c.loop-e-test.false,
      named_all p a.items.now s c.loop-e.e-index c.loop-e.objects.items c.loop-e.invariant.named c.loop-e-test.false ∙ call_items p env a.at.now.context.now.me a.args.now c.in_ok-env.ensures.ok a.h.now y a.items.now,
    )
