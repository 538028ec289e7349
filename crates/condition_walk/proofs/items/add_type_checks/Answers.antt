use Rattle.std.proofs.Common.{refl}
use Rattle.condition_code.proofs.Walks.{goes_then, built_then}
use Rattle.condition_walk.proofs.items.add_type_checks.Goals as goal

pub returns : goal.returns
returns c =
    let first = built_then c.in_ok-kept.ensures.later (c.in_ok-standalone.ensures _ c.in_ok-kept.ensures.stands) in
    let second = built_then c.in_ok-unbroken.ensures.later (c.in_ok-standalone-2.ensures _ c.in_ok-unbroken.ensures.stands) in
    record { path = _; went = goes_then first second; conditions = refl }
