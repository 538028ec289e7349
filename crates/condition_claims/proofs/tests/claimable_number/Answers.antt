use Rattle.std.specs.Prelude.{Bool}
use Rattle.std.proofs.Common.{sym, subst}
use Rattle.condition_formulas.specs.Standing.{StandAll}
use Rattle.condition_formulas.proofs.Rows.{more, none, same_ids}
use Rattle.condition_claims.specs.Pieces.{claimable_number}
use Rattle.condition_claims.proofs.tests.claimable_number.Goals as goal

pub returns-then-is_claimable-clause-stands : goal.returns-then-is_claimable-clause-stands
returns-then-is_claimable-clause-stands c =
    subst (λ (b : Bool). StandAll c.nat.new.graph c.in_ok-one.one.items (claimable_number c.args.number b)) (sym c.if-is_claimable.true) (same_ids c.in_ok-one.ensures (more c.in_ok-id.ensures.stands none))
