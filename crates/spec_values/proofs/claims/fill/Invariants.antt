use Rattle.std.proofs.Common.{length, ◌-◌, map}
use Rattle.method.specs.SpecValue.{filling}
use Rattle.spec_values.specs.Scenes.{scene_at}
use Rattle.object_types.proofs.Rows.{From}
use Rattle.spec_values.proofs.claims.fill.Given as goal

abbrev pub invariant-loop-i : goal.invariant-loop-i
invariant-loop-i l = From (map (filling (scene_at l.at)) l.holes) l.values l.i

abbrev pub decreases-loop-i : goal.decreases-loop-i
decreases-loop-i l = length l.holes - l.i
