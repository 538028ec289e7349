use Rattle.std.specs.Int.{w128}
use Rattle.std.proofs.lemmas.Int.{to_z-of_z}
use Rattle.rule_maps.proofs.Readings.{no_back}
use Rattle.rule_maps.proofs.maps.is_read_back.Goals as goal

pub returns-in-None : goal.returns-in-None
returns-in-None c =
    ((λ h. cc), (λ row. absurd (no_back _ _ _ _ _ (to_z-of_z w128 c.args.t c.ranges.t) c.in-None.ensures.reading row)))
