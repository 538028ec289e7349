use Rattle.std.proofs.Common.{◌≡◌, map, vec_len}
use Rattle.typed_program.specs.Annotations.{all_hold}
use Rattle.typed_program.specs.Views.{spec, specs}
use Rattle.elab_annotations.specs.Typing.{in_row, member}
use Rattle.elab_annotations.proofs.Specs.{and_onto}
use Rattle.elab_annotations.proofs.rows.all_owned.Given as goal

abbrev pub invariant-loop-object : goal.invariant-loop-object
invariant-loop-object l = all_hold (in_row (map member (specs l.fn.arguments.specs.items))) ≡ and_onto (specs l.rest.items) (spec l.spec.value)

abbrev pub decreases-loop-object : goal.decreases-loop-object
decreases-loop-object l = vec_len l.rest
