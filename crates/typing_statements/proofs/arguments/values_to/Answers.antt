use Rattle.std.proofs.Common.{sym, ap, ◌∙◌, List, take, map, arith, Option, None}
use Rattle.c_syntax.specs.Expressions.{Exp}
use Rattle.typing_spec.specs.Types.{Kind, kind, converts}
use Rattle.typing_spec.specs.Rules as r
use Rattle.typing_spec.specs.Pieces.{expression}
use Rattle.typing_spec.specs.Places.{fail_together}
use Rattle.typing_expressions.specs.Violations.{Violations, violations, Judged, broken_if}
use Rattle.c_syntax.specs.declared.expressions.Expr.{Expr}
use Rattle.c_syntax.specs.Views.{exp, exps}
use Rattle.typing_spec.specs.Conversions.{to}
use Rattle.typing_expressions.specs.Views.{context, findings, maybe_broken, maybe_kind}
use Rattle.typing_expressions.proofs.Rows.{take_at, take_all}
use Rattle.typing_statements.specs.Views.{Values, values, one_more}
use Rattle.typing_statements.proofs.Values.{values_by, values_to_more, no_values}
use Rattle.typing_statements.proofs.arguments.values_to.Goals as goal

pub loop-x-init : goal.loop-x-init
loop-x-init c = ap (λ (f : Violations). values_by f None) c.nothing.ensures ∙ sym (no_values (context c.args.context))

pub loop-x-preserved : goal.loop-x-preserved
loop-x-preserved c =
    let k = context c.args.context in
    let q = maybe_kind c.args.wanted in
    let done = exps (take c.loop-x.x-index c.args.all.now) in
    let y = exp c.x-item.result in
    let so_far = values k done (map (to q k) done) in
    let f = ap (λ (j : Judged). j.violations) c.expression-judged.ensures in
    let w = c.misconverted-wrong.ensures
    ∙ (ap (λ (z : Option Kind). broken_if (fail_together converts z q) r.Conversion c.first_place.result) (ap (λ (j : Judged). j.kind) c.expression-judged.ensures)
    ∙ ap (broken_if (fail_together converts (kind k.scope y) q) r.Conversion) c.first_place.ensures) in
    c.with-so_far.ensures
    ∙ (ap (λ (v : Values). one_more v (findings c.expression-judged.result.violations) (maybe_broken c.misconverted-wrong.result)) c.loop-x.invariant
    ∙ (ap (λ (z : Violations). one_more so_far z (maybe_broken c.misconverted-wrong.result)) f
    ∙ (ap (one_more so_far (violations (expression k y))) w
    ∙ (sym (values_to_more k q done y)
    ∙ ap (λ (ys : List Exp). values k ys (map (to q k) ys)) (sym (take_at exp c.args.all.now c.loop-x.x-index c.x-item.result c.loop-x-test.true c.x-item.is))))))

pub returns : goal.returns
returns c =
    c.loop-x.invariant ∙ ap (λ (xs : List Expr). values (context c.args.context) (exps xs) (map (to (maybe_kind c.args.wanted) (context c.args.context)) (exps xs))) (take_all c.args.all.now c.loop-x.x-index (omega arith))
