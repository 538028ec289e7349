use Rattle.std.proofs.Common.{◌≡◌, ◌++◌, map}
use Rattle.std.specs.Prelude.{flat_map}
use Rattle.elab_shapes.specs.Views.{sorts}
use Rattle.elab_sites.specs.Views.{occurrence}
use Rattle.typed_program.specs.Views as seen
use Rattle.elab_program.specs.Walks as spec
use Rattle.elab_program.proofs.shapes.add_sites.Given as goal

abbrev pub invariant-loop-x : goal.invariant-loop-x
invariant-loop-x l =
    let each = spec.sites_in (map seen.shape l.shapes) (sorts l.sorts) in
    map seen.site l.so_far.items ++ flat_map each (map occurrence l.x-iterator.rest.items) ≡ map seen.site l.fn.so_far.items ++ flat_map each (map occurrence l.fn.all.items)
