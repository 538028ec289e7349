use Rattle.std.proofs.Common.{◌≡◌, ◌++◌, map, drop}
use Rattle.typed_program.specs.Tables as tables
use Rattle.elab_program.specs.Views.{declared}
use Rattle.elab_program.proofs.tables.places.Given as goal

abbrev pub invariant-loop-x : goal.invariant-loop-x
invariant-loop-x l = l.so_far.items ++ tables.order l.structs l.functions (map declared (drop l.x-index l.all)) ≡ tables.order 0 0 (map declared l.all)
