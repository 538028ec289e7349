use Rattle.std.proofs.Common.{refl, ap, ◌∙◌, List, map, Bool}
use Rattle.std.specs.Option.{option_map}
use Rattle.c_syntax.specs.declared.expressions.Expr.{Expr}
use Rattle.c_syntax.specs.Views as view
use Rattle.c_syntax.specs.Views.{exps}
use Rattle.typing_spec.specs.Conversions.{to}
use Rattle.typing_spec.specs.Rules as r
use Rattle.typing_spec.specs.First.{earlier}
use Rattle.typing_expressions.specs.Violations.{Violations, joined, breaking, broken_if}
use Rattle.typing_expressions.specs.Views.{context, judged, findings, maybe_kind, maybe_broken}
use Rattle.typing_statements.specs.Views.{values, values_of}
use Rattle.typing_statements.proofs.Parts.{side_at, locked_of}
use Rattle.typing_statements.proofs.rights.interlocked.Goals as goal

pub returns : goal.returns
returns c =
    let k = context c.args.context in
    let x = view.inter c.args.x.now in
    let y = option_map view.comparison c.args.compared.now in
    let q = maybe_kind c.interlocked_kind-kind.result in
    let other = c.comparison-unequal.result.0 in
    let a = values_of c.values_to-arguments.result in
    let own = c.earlier-own.ensures ∙ ap (earlier (maybe_broken c.comparison-unequal.result.1)) (c.earlier.ensures ∙ ap (earlier a.unconverted) (c.broken_if-out_of_form.ensures ∙ ap (λ (t : Bool). broken_if t r.InterlockedCall x.place) c.is_out_of_form.ensures)) in
    side_at x.place refl
    (c.then-2.ensures
    ∙ (ap (λ (f : Violations). joined f (findings c.then-inner.result)) c.breaking.ensures
    ∙ ap (joined (breaking (maybe_broken c.earlier-own.result))) (c.then-inner.ensures ∙ ap (joined (findings c.expression-field.result.violations)) c.then.ensures)))
    ∙ locked_of k x y (judged c.expression-field.result) q (maybe_kind other.kind) a (findings other.violations) (maybe_broken c.comparison-unequal.result.1) (maybe_broken c.earlier-own.result)
    c.expression-field.ensures c.interlocked_kind-kind.ensures c.comparison-unequal.ensures.gives
    (c.values_to-arguments.ensures ∙ ap (λ (xs : List Expr). values k (exps xs) (map (to q k) (exps xs))) c.deref.ensures.value)
    c.comparison-unequal.ensures.inner c.comparison-unequal.ensures.own own
