use Rattle.std.proofs.Common.{arith}
use Rattle.typing_symbols.proofs.Declared.{one_more_function}
use Rattle.typing_symbols.proofs.declarations.functions_of.Goals as goal

pub loop-item-preserved : goal.loop-item-preserved
loop-item-preserved c = one_more_function c.args.items.now c.loop-item.item-index _ _ _ (omega arith) c.item-item.is c.loop-item.invariant c.in_ok-add_function.ensures
