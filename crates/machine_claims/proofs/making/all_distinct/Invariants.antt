use Rattle.std.proofs.Common.{◌≡◌, length}
use Rattle.object_types.specs.Sets.{all_distinct}
use Rattle.machine_claims.proofs.making.all_distinct.Given as goal

abbrev pub invariant-loop-o : goal.invariant-loop-o
invariant-loop-o l = all_distinct l.rest ≡ all_distinct l.objects

abbrev pub decreases-loop-o : goal.decreases-loop-o
decreases-loop-o l = length l.rest
