use Rattle.std.proofs.Common.{◌≡◌, ◌++◌, map, drop}
use Rattle.c_syntax.specs.Views as view
use Rattle.elab_sites.specs.Views.{occurrence}
use Rattle.elab_code.specs.Views.{around}
use Rattle.elab_program.specs.Walks as spec
use Rattle.elab_program.proofs.occurrences.members_occurrences.Given as goal

abbrev pub invariant-loop-x : goal.invariant-loop-x
invariant-loop-x l =
    let a = around l.around in
    map occurrence l.so_far.items ++ spec.members_occurrences a l.next (map view.member (drop l.x-index l.all)) ≡ map occurrence l.fn.so_far.items ++ spec.members_occurrences a 0 (map view.member l.all)
