use Rattle.std.specs.Int.{w128}
use Rattle.std.proofs.lemmas.Int.{to_z-of_z}
use Rattle.rule_maps.proofs.Readings.{no_elsewhere}
use Rattle.rule_maps.proofs.maps.is_other_key.Goals as goal

pub returns-in_default-2 : goal.returns-in_default-2
returns-in_default-2 c =
    ((λ h. cc), (λ row. absurd (no_elsewhere _ _ _ _ _ _ _ (to_z-of_z w128 c.args.t c.ranges.t) c.in_default.ensures.reading row)))
