use Rattle.condition_actions.proofs.Runs.{no_operands}
use Rattle.condition_actions.proofs.operands.operands.Goals as goal

pub returns-in-Increment : goal.returns-in-Increment
returns-in-Increment c = λ b s hb hs. no_operands c.args.a.now.program.now b s c.new.ensures.items c.in-Increment.is
