use Rattle.std.proofs.Common.{refl}
use Rattle.method.specs.Labels.{site_kinds}
use Rattle.check_labels.proofs.Steps.{none_added, some_added}
use Rattle.check_labels.proofs.simples.add_new_claim_kinds.Goals as goal

pub returns-in-None : goal.returns-in-None
returns-in-None c = none_added (site_kinds c.args.inside) _ _ c.in-None.ensures.none refl

pub returns-in_ok-add_site_kinds-in-Some : goal.returns-in_ok-add_site_kinds-in-Some
returns-in_ok-add_site_kinds-in-Some c = some_added (site_kinds c.args.inside) _ _ _ _ c.in-Some.ensures.some c.in_ok-add_site_kinds-in-Some.ensures
