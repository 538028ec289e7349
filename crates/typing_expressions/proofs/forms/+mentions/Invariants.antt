use Rattle.std.proofs.Common.{◌≡◌, drop}
use Rattle.std.specs.List.{list_any}
use Rattle.c_syntax.specs.Views.{id, exps}
use Rattle.typing_spec.specs.Trees as trees
use Rattle.typing_expressions.proofs.forms.+mentions.Given as goal

abbrev pub invariant-any_mentions-loop-x : goal.invariant-any_mentions-loop-x
invariant-any_mentions-loop-x l = list_any (trees.mentions (id l.name)) (exps l.all) ≡ list_any (trees.mentions (id l.name)) (exps (drop l.x-index l.all))
