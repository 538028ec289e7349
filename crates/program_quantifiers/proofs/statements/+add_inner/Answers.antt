use Rattle.std.proofs.Common.{ap, sym, ◌∙◌}
use Rattle.method.specs.declared.program.Inner.{Inner}
use Rattle.conditions.specs.Quantified.{inner_quantifiers}
use Rattle.program_quantifiers.proofs.Adding.{so_adds, same_added, row_first, row_next, row_last}
use Rattle.program_quantifiers.proofs.Vectors.{inner_choice}
use Rattle.program_quantifiers.proofs.statements.+add_inner.Goals as goal

pub add_inner-returns-in-Inside : goal.add_inner-returns-in-Inside
add_inner-returns-in-Inside t c = same_added c.add_simple.result _ _ _ _ (ap inner_quantifiers (sym c.in-Inside.is)) c.add_simple.ensures

pub add_inner-returns-in_ok-add_block-in-InsideIf : goal.add_inner-returns-in_ok-add_block-in-InsideIf
add_inner-returns-in_ok-add_block-in-InsideIf t c =
    let one = rw c.deref.ensures.value at c.in_ok-add_block-in-InsideIf.ensures in
    let two = rw c.deref-in-InsideIf.ensures.value at c.add_block-in-InsideIf.ensures in
    let i = c.in-InsideIf in
    same_added c.add_block-in-InsideIf.result _ _ _ _ (sym (ap inner_quantifiers i.is ∙ inner_choice i.field-0 i.field-1 i.passed i.failed)) (so_adds c.add_block-in-InsideIf.result _ _ _ _ _ one two)

pub add_block-loop-statement-init : goal.add_block-loop-statement-init
add_block-loop-statement-init t c = row_first (λ (s : Unit {0}). Unit {0}) (λ (s : Unit {0}) (x : Inner). inner_quantifiers x) c.args.list.now c.args.row.now

pub add_block-loop-statement-preserved : goal.add_block-loop-statement-preserved
add_block-loop-statement-preserved t c =
    row_next (λ (s : Unit {0}). Unit {0}) (λ (s : Unit {0}) (x : Inner). inner_quantifiers x) c.args.list.now c.loop-statement.list _ c.args.row.now c.loop-statement.statement-index c.statement-item.result c.statement-item.result c.loop-statement.invariant c.loop-statement-test.true c.statement-item.is (λ s known later. c.in_ok-add_inner.ensures)

pub add_block-returns : goal.add_block-returns
add_block-returns t c = row_last c.loop-statement.invariant c.loop-statement-test.false tt tt
