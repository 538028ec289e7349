use Rattle.std.proofs.Common.{◌≡◌, ◌-◌, ◌<◌, true, false}
use Rattle.object_types.specs.declared.references.Ref.{Ref}
use Rattle.object_types.specs.References.{ref_lt}
use Rattle.ownership.specs.Ranks.{rank}
use Rattle.machine_ownership.proofs.Searching.{is_its}
use Rattle.machine_ownership.proofs.spawn.is_idle.Given as goal

abbrev pub invariant-loop-o : goal.invariant-loop-o
invariant-loop-o l = record {
  none : (q : Ref) → ref_lt q l.from ≡ true → is_its l.h l.t q ≡ false;
  serial : l.from.serial < 4294967296;
  within : rank l.from < 18446744073709551616;
}

abbrev pub decreases-loop-o : goal.decreases-loop-o
decreases-loop-o l = 18446744073709551616 - rank l.from
