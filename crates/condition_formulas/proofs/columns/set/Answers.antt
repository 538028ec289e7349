use Rattle.condition_formulas.proofs.Rows.{both, more, none, same_ids, then_one}
use Rattle.condition_formulas.proofs.columns.set.Goals as goal

pub returns-clause-stands : goal.returns-clause-stands
returns-clause-stands c = λ h fs v h0 h1 h2. c.stored.ensures.stands _ (same_ids c.deref.ensures.value (same_ids c.in_ok-push.ensures.items (then_one (same_ids c.in_ok-args.ensures (both (more h0 none) h1)) h2)))
