use Rattle.std.proofs.Common.{ℕ, sym, ap, ◌∙◌, List, map, take, arith}
use Rattle.c_syntax.specs.declared.statements.Invariant.{Invariant}
use Rattle.c_syntax.specs.Views as view
use Rattle.elab_code.specs.Views.{around}
use Rattle.typing_expressions.proofs.Rows.{take_at, take_all}
use Rattle.elab_annotations.specs.Views.{Several}
use Rattle.elab_annotations.proofs.Steps.{with_one}
use Rattle.elab_clauses.specs.Numberings.{numbering, typed_said, said_invariants}
use Rattle.elab_clauses.proofs.Invariants.{no_invariants, invariants_law}
use Rattle.elab_clauses.proofs.numbering.invariants.Goals as goal

pub loop-x-init : goal.loop-x-init
loop-x-init c = c.nothing-so_far.ensures ∙ no_invariants (numbering c.args.numbering) (around c.args.around) c.args.first

pub loop-x-preserved : goal.loop-x-preserved
loop-x-preserved c =
    let k = numbering c.args.numbering in
    let a = around c.args.around in
    let n = c.args.first in
    let done = map view.invariant (take c.loop-x.x-index c.args.all.now) in
    let y = view.invariant c.x-item.result in
    let more = take_at view.invariant c.args.all.now c.loop-x.x-index c.x-item.result c.loop-x-test.true c.x-item.is in
    let one = c.in_ok-one.ensures ∙ ap (λ (m : ℕ). typed_said k a m y.property) (ap (λ (r : Several). r.next) c.loop-x.invariant) in
    c.in_ok-so_far.ensures ∙ (with_one c.loop-x.invariant one ∙ (invariants_law k a n done y ∙ ap (said_invariants k a n) (sym more)))

pub returns : goal.returns
returns c = c.loop-x.invariant ∙ ap (λ (xs : List Invariant). said_invariants (numbering c.args.numbering) (around c.args.around) c.args.first (map view.invariant xs)) (take_all c.args.all.now c.loop-x.x-index (omega arith))
