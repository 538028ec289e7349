use Rattle.std.proofs.Common.{◌≡◌, drop}
use Rattle.std.specs.List.{list_any}
use Rattle.c_syntax.specs.Views.{id, exps}
use Rattle.typing_spec.specs.Trees.{mentions}
use Rattle.elab_sites.proofs.sites.stands_in.Given as goal

abbrev pub invariant-loop-x : goal.invariant-loop-x
invariant-loop-x l = list_any (mentions (id l.name)) (exps l.all) ≡ list_any (mentions (id l.name)) (exps (drop l.x-index l.all))
