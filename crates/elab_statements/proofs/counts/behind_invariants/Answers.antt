use Rattle.std.proofs.Common.{ℕ, ◌+◌, sym, ap, ◌∙◌, List, map, take, arith}
use Rattle.c_syntax.specs.declared.statements.Invariant.{Invariant}
use Rattle.c_syntax.specs.Statements.{Inv}
use Rattle.c_syntax.specs.Views as view
use Rattle.typing_expressions.proofs.Rows.{take_at, take_all}
use Rattle.typed_program.specs.Annotations.{formulas}
use Rattle.typed_program.specs.Statements.{in_invariants}
use Rattle.elab_statements.proofs.Sums.{behind_invariants_more}
use Rattle.elab_statements.proofs.counts.behind_invariants.Goals as goal

pub loop-x-init : goal.loop-x-init
loop-x-init c = omega arith

pub loop-x-preserved : goal.loop-x-preserved
loop-x-preserved c =
    let done = map view.invariant (take c.loop-x.x-index c.args.all.now) in
    let y = view.invariant c.x-item.result in
    let more = take_at view.invariant c.args.all.now c.loop-x.x-index c.x-item.result c.loop-x-test.true c.x-item.is in
    c.in_ok-next.ensures ∙ (ap (λ (m : ℕ). m + formulas y.property) c.loop-x.invariant ∙ (behind_invariants_more c.args.first done y ∙ ap (λ (xs : List Inv). c.args.first + in_invariants xs) (sym more)))

pub returns : goal.returns
returns c = c.loop-x.invariant ∙ ap (λ (xs : List Invariant). c.args.first + in_invariants (map view.invariant xs)) (take_all c.args.all.now c.loop-x.x-index (omega arith))
