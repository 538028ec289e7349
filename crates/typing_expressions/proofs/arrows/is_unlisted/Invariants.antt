use Rattle.std.proofs.Common.{◌≡◌, drop}
use Rattle.std.specs.List.{list_any}
use Rattle.c_syntax.specs.Views.{exp, exps}
use Rattle.typing_spec.specs.Trees.{same_tree}
use Rattle.typing_expressions.proofs.arrows.is_unlisted.Given as goal

abbrev pub invariant-loop-listed : goal.invariant-loop-listed
invariant-loop-listed l = list_any (same_tree (exp l.object)) (exps l.objects) ≡ list_any (same_tree (exp l.object)) (exps (drop l.listed-index l.objects))
