use Rattle.std.proofs.Common.{◌≡◌, map, drop}
use Rattle.elab_assignments.specs.Views.{before}
use Rattle.typed_program.specs.Statements.{plus}
use Rattle.typed_program.specs.Tables as tables
use Rattle.elab_program.specs.Views.{declared}
use Rattle.elab_program.proofs.tables.behind_items.Given as goal

abbrev pub invariant-loop-x : goal.invariant-loop-x
invariant-loop-x l = plus (before l.next) (tables.all_items (map declared (drop l.x-index l.all))) ≡ plus (before l.fn.before) (tables.all_items (map declared l.all))
