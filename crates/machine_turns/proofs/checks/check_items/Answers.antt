use Rattle.std.proofs.Common.{List, sym, ap, ◌∙◌}
use Rattle.std.proofs.lemmas.Result.{err_from_is_err_and}
use Rattle.object_types.specs.declared.references.Ref.{Ref}
use Rattle.object_types.specs.declared.records.Stored.{Stored}
use Rattle.object_types.specs.Values.{referent}
use Rattle.method.specs.declared.program.CheckKind.TheVariants.{Writes}
use Rattle.method.specs.declared.program.Spec.{Spec}
use Rattle.method.specs.SpecValue.{value}
use Rattle.method.specs.Overflow.{overflow}
use Rattle.method.specs.Expressions.{Tested, may_write}
use Rattle.machine_values.specs.declared.spot.Spot.{Spot}
use Rattle.machine_values.specs.Answers.{verdict}
use Rattle.machine_values.specs.Spots.{spot_at}
use Rattle.machine_values.specs.Testing.{code_scene}
use Rattle.machine_values.proofs.Verdicts.{test_end}
use Rattle.spec_eval.specs.declared.env.Env.{Env}
use Rattle.machine_turns.specs.Scenes.{item_tests_at}
use Rattle.machine_turns.proofs.Scenes.{worked_stops, item_next, item_fails, item_stops}
use Rattle.machine_turns.proofs.checks.check_items.Goals as goal

abbrev test : List Ref → Spot → Env → List Stored → Spec → Tested
test x at_ env heap e = record { overflow = overflow at_.program.now e (code_scene env heap heap); holds = may_write (spot_at x at_) (referent (value at_.program.now e (code_scene env heap heap))) }

pub returns-then-not-may_write : goal.returns-then-not-may_write
returns-then-not-may_write c x =
    let a = c.args in
    let s = a.at.now in
    let all = verdict s.line Writes (item_tests_at x s a.items.now a.env.now a.heap.now) in
    rw c.fault.ensures
    (item_fails (test x s a.env.now a.heap.now) a.items.now s.line Writes all c.loop-e.e-index c.e-item.result (c.loop-e.invariant x) c.loop-e-test.true c.e-item.is c.in_ok-spec_value.ensures.0
    (ap (λ v. may_write (spot_at x s) (referent v)) (sym c.in_ok-spec_value.ensures.1) ∙ ap (may_write (spot_at x s)) (sym c.referent-o.ensures) ∙ sym (c.may_write.ensures x) ∙ c.if-not-may_write.true))

pub loop-e-preserved : goal.loop-e-preserved
loop-e-preserved c x =
    let a = c.args in
    let s = a.at.now in
    let all = verdict s.line Writes (item_tests_at x s a.items.now a.env.now a.heap.now) in
    item_next (test x s a.env.now a.heap.now) a.items.now s.line Writes all c.loop-e.e-index c.e-item.result (c.loop-e.invariant x) c.loop-e-test.true c.e-item.is c.in_ok-spec_value.ensures.0
    (ap (λ v. may_write (spot_at x s) (referent v)) (sym c.in_ok-spec_value.ensures.1) ∙ ap (may_write (spot_at x s)) (sym c.referent-o.ensures) ∙ sym (c.may_write.ensures x) ∙ c.if-not-may_write.false)

pub returns-in_err-spec_value : goal.returns-in_err-spec_value
returns-in_err-spec_value c x =
    let a = c.args in
    let s = a.at.now in
    let t = test x s a.env.now a.heap.now in
    let all = verdict s.line Writes (item_tests_at x s a.items.now a.env.now a.heap.now) in
    let p = err_from_is_err_and c.from_residual.result c.from_residual.ensures.1 in
    rw (p.1, p.2)
    (item_stops t a.items.now s.line Writes all c.loop-e.e-index c.e-item.result (c.loop-e.invariant x) c.loop-e-test.true c.e-item.is c.in_err-spec_value.field-0.0
    (worked_stops c.in_err-spec_value.field-0.0 (t c.e-item.result).overflow (value s.program.now c.e-item.result (code_scene a.env.now a.heap.now a.heap.now)) (t c.e-item.result).holds c.in_err-spec_value.ensures))

pub returns : goal.returns
returns c x =
    let a = c.args in
    let s = a.at.now in
    test_end (test x s a.env.now a.heap.now) a.items.now s.line Writes (verdict s.line Writes (item_tests_at x s a.items.now a.env.now a.heap.now)) c.loop-e.e-index (c.loop-e.invariant x) c.loop-e-test.false
