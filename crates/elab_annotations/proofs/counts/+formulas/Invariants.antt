use Rattle.std.proofs.Common.{◌≡◌, ◌+◌, drop}
use Rattle.c_syntax.specs.Grammar.{exps_of}
use Rattle.c_syntax.specs.Views.{exps}
use Rattle.typed_program.specs.Annotations as spec
use Rattle.elab_annotations.proofs.counts.+formulas.Given as goal

abbrev pub invariant-behind_all-loop-x : goal.invariant-behind_all-loop-x
invariant-behind_all-loop-x l = l.next + spec.all_formulas (exps_of (exps (drop l.x-index l.all))) ≡ l.fn.first + spec.all_formulas (exps_of (exps l.all))
