use Rattle.std.proofs.Common.{◌∙◌, ◌++◌, ◌∷◌, [], Err, sym, ap, subst}
use Rattle.std.proofs.lemmas.Result.{err_from_is_err_and}
use Rattle.method.specs.SpecValue.{value}
use Rattle.method.specs.Overflow.{overflow}
use Rattle.machine_values.specs.Answers.{Worked}
use Rattle.machine_values.specs.Testing.{code_scene}
use Rattle.machine_ownership.proofs.Naming.{named_none, named_next, named_stops, named_all, named_fits}
use Rattle.machine_ownership.proofs.items.items_of.Goals as goal

pub loop-e-init : goal.loop-e-init
loop-e-init c = let a = c.args in named_none a.program.now a.items.now (code_scene a.env.now a.h.now a.h.now) _ c.new-objects.ensures.items

pub loop-e-preserved : goal.loop-e-preserved
loop-e-preserved c =
    let a = c.args in
    let s = code_scene a.env.now a.h.now a.h.now in
    named_next a.program.now a.items.now s c.loop-e.e-index _ c.loop-e-test.true c.loop-e.objects.items c.loop-e.invariant _ c.in_ok-v.v (ap (λ e. overflow a.program.now e s) (sym c.e-item.is) ∙ c.in_ok-v.ensures.0) (c.in_ok-v.ensures.1 ∙ ap (λ e. value a.program.now e s) c.e-item.is) (c.in_ok-push.ensures.items ∙ ap (λ o. c.loop-e.objects.items ++ o ∷ []) c.referent.ensures)

pub returns-in_err-v : goal.returns-in_err-v
returns-in_err-v c =
    let a = c.args in
    let p = err_from_is_err_and c.from_residual.result c.from_residual.ensures.1 in
    let s = code_scene a.env.now a.h.now a.h.now in
    rw (p.1, p.2)
    (named_stops a.program.now a.items.now s c.loop-e.e-index c.e-item.result c.loop-e-test.true c.loop-e.objects.items c.loop-e.invariant c.in_err-v.field-0.0 (value a.program.now c.e-item.result s) _
    (subst (λ e. Worked (Err c.in_err-v.field-0.0) (overflow a.program.now e s) (value a.program.now c.e-item.result s)) c.e-item.is c.in_err-v.ensures))

pub returns : goal.returns
returns c =
    let a = c.args in
    let s = code_scene a.env.now a.h.now a.h.now in
    (named_fits a.program.now a.items.now s c.loop-e.e-index c.loop-e.objects.items c.loop-e.invariant c.loop-e-test.false, named_all a.program.now a.items.now s c.loop-e.e-index c.loop-e.objects.items c.loop-e.invariant c.loop-e-test.false)
