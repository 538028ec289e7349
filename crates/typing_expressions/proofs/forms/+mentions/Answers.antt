use Rattle.std.proofs.Common.{sym, ◌∙◌}
use Rattle.c_syntax.specs.Views.{id}
use Rattle.typing_spec.specs.Trees.{mentions}
use Rattle.typing_expressions.proofs.Rows.{several_mentions, one_true}
use Rattle.typing_expressions.proofs.forms.+mentions.Goals as goal

pub any_mentions-returns-then-mentions : goal.any_mentions-returns-then-mentions
any_mentions-returns-then-mentions t c = one_true (mentions (id c.args.name.now)) c.args.all.now c.loop-x.x-index c.x-item.result c.loop-x-test.true c.x-item.is (sym c.mentions.ensures ∙ c.if-mentions.true) c.loop-x.invariant

pub mentions-returns-in-Several : goal.mentions-returns-in-Several
mentions-returns-in-Several t c =
    let s = c.in-Several in
    c.any_mentions.ensures ∙ sym (several_mentions (id c.args.name.now) c.args.x.now s.field-0 s.field-1 s.arguments c.deref-in-Several.result.now s.is c.deref-in-Several.ensures.value)
