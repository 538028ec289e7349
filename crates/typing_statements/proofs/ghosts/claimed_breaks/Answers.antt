use Rattle.std.proofs.Common.{sym, ap, ◌∙◌, List, take, arith, Bool, Option}
use Rattle.c_syntax.specs.declared.expressions.Expr.{Expr}
use Rattle.c_syntax.specs.Views.{exp, exps}
use Rattle.typing_spec.specs.Types.{kind}
use Rattle.typing_spec.specs.Places.{fails}
use Rattle.typing_spec.specs.Ownership.{may_be_claimed}
use Rattle.typing_spec.specs.Rules as r
use Rattle.typing_spec.specs.First.{Fault, earlier}
use Rattle.typing_expressions.specs.Violations.{Judged, broken_if}
use Rattle.typing_expressions.specs.Views.{context, maybe_broken}
use Rattle.typing_expressions.proofs.Rows.{take_at, take_all}
use Rattle.typing_statements.specs.Breaks as spec
use Rattle.typing_statements.proofs.GhostForms.{claimed_more}
use Rattle.typing_statements.proofs.ghosts.claimed_breaks.Goals as goal

pub loop-x-preserved : goal.loop-x-preserved
loop-x-preserved c =
    let k = context c.args.context in
    let done = exps (take c.loop-x.x-index c.args.objects.now) in
    let y = exp c.x-item.result in
    let test = c.is_unclaimable-unclaimable.ensures ∙ ap (λ (j : Judged). fails may_be_claimed j.kind) c.expression.ensures in
    let own = c.broken_if.ensures ∙ (ap (λ (t : Bool). broken_if t r.Claimed c.first_place.result) test ∙ ap (broken_if (fails may_be_claimed (kind k.scope y)) r.Claimed) c.first_place.ensures) in
    c.earlier-so_far.ensures
    ∙ (ap (λ (o : Option Fault). earlier o (maybe_broken c.broken_if.result)) c.loop-x.invariant
    ∙ (ap (earlier (spec.claimed_breaks k done)) own
    ∙ (sym (claimed_more k done y) ∙ ap (spec.claimed_breaks k) (sym (take_at exp c.args.objects.now c.loop-x.x-index c.x-item.result c.loop-x-test.true c.x-item.is)))))

pub returns : goal.returns
returns c = c.loop-x.invariant ∙ ap (λ (xs : List Expr). spec.claimed_breaks (context c.args.context) (exps xs)) (take_all c.args.objects.now c.loop-x.x-index (omega arith))
