use Rattle.std.proofs.Common.{sym, ap, ◌∙◌, List, take, map, arith, slice_get, Option, None}
use Rattle.std.specs.Option.{option_map}
use Rattle.c_syntax.specs.Expressions.{Exp}
use Rattle.typing_spec.specs.Types.{Kind, kind}
use Rattle.typing_spec.specs.Pieces.{expression}
use Rattle.c_syntax.specs.declared.expressions.Expr.{Expr}
use Rattle.c_syntax.specs.Items.{Param}
use Rattle.c_syntax.specs.Views as view
use Rattle.c_syntax.specs.Views.{exp, exps}
use Rattle.typing_spec.specs.Conversions.{paired}
use Rattle.typing_expressions.specs.Violations.{Violations, violations, Judged}
use Rattle.typing_expressions.specs.Views.{context, findings, maybe_broken}
use Rattle.typing_expressions.proofs.Rows.{take_at, take_all}
use Rattle.typing_statements.specs.Breaks as b
use Rattle.typing_statements.specs.Views.{Values, values, one_more}
use Rattle.typing_statements.proofs.Values.{values_by, arguments_more, taken_length, no_values}
use Rattle.typing_statements.proofs.arguments.arguments.Goals as goal

pub loop-i-init : goal.loop-i-init
loop-i-init c = ap (λ (f : Violations). values_by f None) c.nothing.ensures ∙ sym (no_values (context c.args.context))

pub loop-i-preserved : goal.loop-i-preserved
loop-i-preserved c =
    let k = context c.args.context in
    let ps = map view.parameter c.args.parameters.now in
    let done = exps (take c.loop-i.i c.args.all.now) in
    let y = exp c.index-all-i.result in
    let so_far = values k done (paired k done ps) in
    let f = ap (λ (j : Judged). j.violations) c.expression-judged.ensures in
    let w = c.mispassed-wrong.ensures
    ∙ (ap (λ (q : Option Kind). b.mispassed k q (option_map (λ p. view.parameter p.now) c.parameter_at.result) c.first_place-place.result) (ap (λ (j : Judged). j.kind) c.expression-judged.ensures)
    ∙ (ap (λ (q : Option Param). b.mispassed k (kind k.scope y) q c.first_place-place.result) c.parameter_at.ensures ∙ ap (b.mispassed k (kind k.scope y) (slice_get ps c.loop-i.i)) c.first_place-place.ensures)) in
    c.with-so_far.ensures
    ∙ (ap (λ (v : Values). one_more v (findings c.expression-judged.result.violations) (maybe_broken c.mispassed-wrong.result)) c.loop-i.invariant
    ∙ (ap (λ (z : Violations). one_more so_far z (maybe_broken c.mispassed-wrong.result)) f
    ∙ (ap (one_more so_far (violations (expression k y))) w
    ∙ (sym (arguments_more k done y ps c.loop-i.i (taken_length exp c.args.all.now c.loop-i.i c.loop-i-test.true))
    ∙ ap (λ (ys : List Exp). values k ys (paired k ys ps)) (sym (take_at exp c.args.all.now c.loop-i.i c.index-all-i.result c.loop-i-test.true c.index-all-i.is))))))

pub returns : goal.returns
returns c = c.loop-i.invariant ∙ ap (λ (xs : List Expr). values (context c.args.context) (exps xs) (paired (context c.args.context) (exps xs) (map view.parameter c.args.parameters.now))) (take_all c.args.all.now c.loop-i.i (omega arith))
