use Rattle.std.proofs.Common.{sym, ap, ◌∙◌, List, map, take, arith}
use Rattle.c_syntax.specs.declared.statements.Invariant.{Invariant}
use Rattle.c_syntax.specs.Statements.{Inv}
use Rattle.c_syntax.specs.Views as view
use Rattle.typing_spec.specs.Contexts.{Context, LoopInvariant}
use Rattle.typing_spec.specs.Pieces as pieces
use Rattle.typing_spec.specs.Pieces.{expression}
use Rattle.typing_expressions.specs.Violations.{Violations, Judged, violations, joined}
use Rattle.typing_expressions.specs.Views.{context, findings}
use Rattle.typing_expressions.proofs.FoundLaws.{found_none}
use Rattle.typing_expressions.proofs.Rows.{take_at, take_all}
use Rattle.typing_statements.proofs.StatementForms.{invariants_more}
use Rattle.typing_statements.proofs.simple.invariants.Goals as goal

pub loop-x-init : goal.loop-x-init
loop-x-init c = c.nothing-so_far.ensures ∙ sym found_none

pub loop-x-preserved : goal.loop-x-preserved
loop-x-preserved c =
    let k = context c.args.context in
    let done = map view.invariant (take c.loop-x.x-index c.args.all.now) in
    let y = view.invariant c.x-item.result in
    let one = ap (λ (j : Judged). j.violations) c.expression.ensures ∙ ap (λ (w : Context). violations (expression w y.property)) c.with_text-inside.ensures in
    c.then-so_far.ensures ∙ (ap (λ (f : Violations). joined f (findings c.expression.result.violations)) c.loop-x.invariant ∙ (ap (joined (violations (pieces.invariants LoopInvariant k done))) one
    ∙ (sym (invariants_more LoopInvariant k done y) ∙ ap (λ (is : List Inv). violations (pieces.invariants LoopInvariant k is)) (sym (take_at view.invariant c.args.all.now c.loop-x.x-index c.x-item.result c.loop-x-test.true c.x-item.is)))))

pub returns : goal.returns
returns c = c.loop-x.invariant ∙ ap (λ (xs : List Invariant). violations (pieces.invariants LoopInvariant (context c.args.context) (map view.invariant xs))) (take_all c.args.all.now c.loop-x.x-index (omega arith))
