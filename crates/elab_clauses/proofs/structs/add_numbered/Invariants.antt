use Rattle.std.proofs.Common.{◌≡◌, ◌++◌, map, drop}
use Rattle.typed_program.specs.Shapes.{numbered}
use Rattle.typed_program.specs.Views as seen
use Rattle.elab_clauses.specs.Numberings.{numbering}
use Rattle.elab_clauses.proofs.structs.add_numbered.Given as goal

abbrev pub invariant-loop-x : goal.invariant-loop-x
invariant-loop-x l =
    let k = numbering l.numbering in
    seen.specs l.so_far.items ++ map (numbered k.shapes k.sorts) (seen.specs (drop l.x-index l.all)) ≡ seen.specs l.fn.so_far.items ++ map (numbered k.shapes k.sorts) (seen.specs l.all)
