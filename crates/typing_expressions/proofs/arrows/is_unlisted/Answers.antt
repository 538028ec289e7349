use Rattle.std.proofs.Common.{sym, ◌∙◌, ap, not}
use Rattle.c_syntax.specs.Views.{exp}
use Rattle.typing_spec.specs.Trees.{same_tree}
use Rattle.typing_expressions.proofs.Rows.{one_true}
use Rattle.typing_expressions.proofs.arrows.is_unlisted.Goals as goal

pub returns-then-same_tree : goal.returns-then-same_tree
returns-then-same_tree c = ap not (one_true (same_tree (exp c.args.object.now)) c.args.objects.now c.loop-listed.listed-index c.listed-item.result c.loop-listed-test.true c.listed-item.is (sym c.same_tree.ensures ∙ c.if-same_tree.true) c.loop-listed.invariant)
