use Rattle.std.proofs.Common.{arith}
use Rattle.typing_symbols.proofs.Declared.{one_more_struct}
use Rattle.typing_symbols.proofs.declarations.struct_entries.Goals as goal

pub loop-item-preserved : goal.loop-item-preserved
loop-item-preserved c = one_more_struct c.args.items.now c.loop-item.item-index _ _ _ (omega arith) c.item-item.is c.loop-item.invariant c.in_ok-add_struct.ensures
