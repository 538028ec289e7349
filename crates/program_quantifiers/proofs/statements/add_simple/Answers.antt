use Rattle.std.proofs.Common.{ap, sym, subst}
use Rattle.conditions.specs.Quantified.{simple_quantifiers}
use Rattle.program_quantifiers.specs.Quantifiers.{Adds}
use Rattle.program_quantifiers.proofs.Adding.{adds_none, same_added}
use Rattle.program_quantifiers.proofs.Alike.{no_simple}
use Rattle.program_quantifiers.proofs.statements.add_simple.Goals as goal

pub returns-in-EndClaim : goal.returns-in-EndClaim
returns-in-EndClaim c = same_added c.add_listed.result _ _ _ _ (ap simple_quantifiers (sym c.in-EndClaim.is)) (rw c.deref.ensures.value at c.add_listed.ensures)

pub returns-in-Assign : goal.returns-in-Assign
returns-in-Assign c = subst (λ qs. Adds c.args.list.now c.args.list.now qs) (no_simple c.args.statement.now c.in-Assign.is) (adds_none c.args.list.now)
