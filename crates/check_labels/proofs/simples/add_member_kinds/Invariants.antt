use Rattle.std.proofs.Common.{◌≡◌, ◌++◌, drop}
use Rattle.method.specs.Labels.{member_kinds}
use Rattle.check_labels.proofs.simples.add_member_kinds.Given as goal

abbrev pub invariant-loop-member : goal.invariant-loop-member
invariant-loop-member l = l.kinds.items ++ member_kinds l.inside (drop l._member-index l.members) ≡ l.fn.kinds.items ++ member_kinds l.inside l.members
