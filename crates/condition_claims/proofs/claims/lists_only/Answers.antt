use Rattle.condition_formulas.proofs.Rows.{both, more, none, same_ids}
use Rattle.condition_claims.proofs.claims.lists_only.Goals as goal

pub returns-clause-stands : goal.returns-clause-stands
returns-clause-stands c = λ h d os hh hd hos.
    c.all.ensures.stands _ (same_ids c.deref.ensures.value (same_ids c.in_ok-args.ensures (both (more hh (more hd none)) hos)))
