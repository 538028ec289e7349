use Rattle.std.proofs.Common.{◌≡◌, take, map}
use Rattle.c_syntax.specs.Views as view
use Rattle.typing_expressions.specs.Views.{maybe_broken}
use Rattle.typing_program.specs.Violation as spec
use Rattle.typing_program.proofs.structs.misapprovals.Given as goal

abbrev pub invariant-loop-member : goal.invariant-loop-member
invariant-loop-member l = maybe_broken l.so_far ≡ spec.misapprovals (view.struct l.x.tree.now) (map view.member (take l.member-index l.members))
