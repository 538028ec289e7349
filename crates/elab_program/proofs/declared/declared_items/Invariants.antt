use Rattle.std.proofs.Common.{◌≡◌, map, take, length}
use Rattle.c_syntax.specs.Views as view
use Rattle.typing_spec.specs.Declarations.{structs}
use Rattle.elab_program.specs.Views.{declared}
use Rattle.elab_program.proofs.declared.declared_items.Given as goal

abbrev pub invariant-loop-x : goal.invariant-loop-x
invariant-loop-x l =
    let done = map view.item (take l.x-index l.items) in
    (map declared l.so_far.items ≡ done) × (l.place ≡ length (structs done))
