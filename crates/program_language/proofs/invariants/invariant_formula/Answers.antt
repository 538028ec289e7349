use Rattle.condition_formulas.proofs.Rows.{same_ids}
use Rattle.program_language.proofs.invariants.invariant_formula.Goals as goal

pub returns-clause-stands : goal.returns-clause-stands
returns-clause-stands c = λ h.
    let each = rw c.deref.ensures.value at (c.in_ok-each.ensures.stands _ h) in
    c.all_of.ensures.stands _ (same_ids c.deref-2.ensures.value each)
