use Rattle.std.proofs.Common.{◌≡◌, drop}
use Rattle.object_types.specs.Sets.{some}
use Rattle.object_types.specs.Shapes.{same_entry}
use Rattle.object_types.specs.Lookups.{look_up}
use Rattle.method.specs.SpecValue.{entry_of}
use Rattle.spec_values.specs.Scenes.{scene_at}
use Rattle.spec_values.proofs.claims.has.Given as goal

abbrev pub invariant-loop-entry : goal.invariant-loop-entry
invariant-loop-entry l =
    some (same_entry (entry_of (scene_at l.at) l.conjunct)) (drop l.entry-index l.entry-items)
    ≡ some (same_entry (entry_of (scene_at l.at) l.conjunct)) (look_up l.at.after.now l.at.subject).shapes
