use Rattle.std.proofs.Common.{◌≡◌, drop}
use Rattle.object_types.specs.Sets.{is_in}
use Rattle.spec_values.proofs.status.contains.Given as goal

abbrev pub invariant-loop-other : goal.invariant-loop-other
invariant-loop-other l = is_in l.member (drop l.other-index l.set) ≡ is_in l.member l.set
