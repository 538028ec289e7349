use Rattle.std.proofs.Common.{arith}
use Rattle.typing_symbols.proofs.Declared.{one_more_field}
use Rattle.typing_symbols.proofs.declarations.fields_of.Goals as goal

pub loop-member-preserved : goal.loop-member-preserved
loop-member-preserved c = one_more_field c.args.members.now c.loop-member.member-index _ _ _ (omega arith) c.member-item.is c.loop-member.invariant c.in_ok-add_field.ensures
