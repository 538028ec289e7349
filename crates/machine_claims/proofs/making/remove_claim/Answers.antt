use Rattle.object_types.specs.Lookups.{look_up}
use Rattle.machine_claims.proofs.Mapping.{on_any}
use Rattle.machine_claims.proofs.Lacking.{lacks_end}
use Rattle.machine_claims.proofs.Membership.{listed_distinct}
use Rattle.machine_claims.proofs.making.remove_claim.Goals as goal

pub returns-clause-distinct : goal.returns-clause-distinct
returns-clause-distinct c = on_any c.map_err.result (listed_distinct c.args.h.now c.args.c c.is_kept.ensures)

pub returns-clause-err : goal.returns-clause-err
returns-clause-err c = lacks_end c.args.h.now (look_up c.args.h.now c.args.c).listed c.drop_claim.result c.map_err.result c.map_err.ensures.cases c.drop_claim.ensures.serial c.drop_claim.ensures.full
