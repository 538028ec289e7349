use Rattle.std.proofs.Common.{arith, ◌∙◌}
use Rattle.upgrade_blocks.proofs.Numbers.{no_args, args_between}
use Rattle.upgrade_blocks.proofs.arguments.args_of.Goals as goal

pub returns-then-count-lt3 : goal.returns-then-count-lt3
returns-then-count-lt3 c = no_args c.args.numbers.now _ (omega (arith, c.if-count-lt3.true)) c.new.ensures.items

pub returns : goal.returns
returns c = c.in_ok-args.ensures ∙ args_between c.args.numbers.now _ (omega (arith, c.if-count-lt3.false)) (omega arith)
