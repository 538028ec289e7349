use Rattle.condition_formulas.proofs.Rows.{both, more, none, same_ids}
use Rattle.condition_formulas.proofs.columns.get.Goals as goal

pub returns-clause-stands : goal.returns-clause-stands
returns-clause-stands c = λ h fs h0 h1. c.read.ensures.stands _ (same_ids c.deref.ensures.value (same_ids c.in_ok-args.ensures (both (more h0 none) h1)))
