use Rattle.std.proofs.Common.{◌≡◌, ◌+◌, map, drop}
use Rattle.c_syntax.specs.Views as view
use Rattle.typed_program.specs.Tables.{struct_formulas, invariants_of}
use Rattle.elab_program.proofs.tables.behind_members.Given as goal

abbrev pub invariant-loop-x : goal.invariant-loop-x
invariant-loop-x l = l.next + struct_formulas (invariants_of (map view.member (drop l.x-index l.all))) ≡ l.first + struct_formulas (invariants_of (map view.member l.all))
