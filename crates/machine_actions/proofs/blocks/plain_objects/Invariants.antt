use Rattle.std.proofs.Common.{◌≡◌, ◌++◌, drop, length}
use Rattle.method.specs.Actions.{listed_objects}
use Rattle.machine_actions.proofs.blocks.plain_objects.Given as goal

abbrev pub invariant-loop-item : goal.invariant-loop-item
invariant-loop-item l = l.plain.items ++ listed_objects (drop (length l.yielded) l.listed) (drop (length l.yielded) l.objects) ≡ listed_objects l.listed l.objects
