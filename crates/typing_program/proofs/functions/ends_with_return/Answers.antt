use Rattle.std.proofs.Common.{sym, ◌∙◌}
use Rattle.typing_program.proofs.Steps.{ends_at}
use Rattle.typing_program.proofs.functions.ends_with_return.Goals as goal

pub returns : goal.returns
returns c = c.is_return.ensures ∙ ends_at c.args.body.now c.index-body-body.result (sym c.is_empty.ensures ∙ c.if-is_empty.false) c.index-body-body.is
