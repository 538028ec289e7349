use Rattle.std.proofs.Common.{sym, ◌∙◌}
use Rattle.c_syntax.specs.Views.{id}
use Rattle.typing_spec.specs.Trees.{mentions}
use Rattle.typing_expressions.proofs.Rows.{one_true}
use Rattle.elab_sites.proofs.sites.stands_in.Goals as goal

pub returns-then-mentions : goal.returns-then-mentions
returns-then-mentions c = one_true (mentions (id c.args.name.now)) c.args.all.now c.loop-x.x-index c.x-item.result c.loop-x-test.true c.x-item.is (sym c.mentions.ensures ∙ c.if-mentions.true) c.loop-x.invariant
