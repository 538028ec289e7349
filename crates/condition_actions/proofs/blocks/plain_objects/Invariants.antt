use Rattle.std.proofs.Common.{◌≡◌, ◌++◌, drop, length}
use Rattle.condition_actions.specs.Blocks.{plain_ids}
use Rattle.condition_actions.proofs.blocks.plain_objects.Given as goal

abbrev pub invariant-loop-item : goal.invariant-loop-item
invariant-loop-item l = l.plain.items ++ plain_ids (drop (length l.yielded) l.listed) (drop (length l.yielded) l.objects) ≡ plain_ids l.listed l.objects
