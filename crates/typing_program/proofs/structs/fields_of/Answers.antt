use Rattle.std.proofs.Common.{ap, ◌∙◌, List, map, arith}
use Rattle.c_syntax.specs.declared.items.Member.{Member}
use Rattle.c_syntax.specs.Views as view
use Rattle.typing_expressions.proofs.Rows.{take_all}
use Rattle.typing_program.specs.Names.{held, field_names}
use Rattle.typing_program.proofs.Steps.{fields_more}
use Rattle.typing_program.proofs.structs.fields_of.Goals as goal

pub loop-member-preserved : goal.loop-member-preserved
loop-member-preserved c =
    fields_more view.member (held c.loop-member.names.items) _ c.args.members.now c.loop-member.member-index c.member-item.result c.loop-member-test.true c.member-item.is c.loop-member.invariant c.in_ok-add_field.ensures

pub returns : goal.returns
returns c = c.loop-member.invariant ∙ ap (λ (ms : List Member). field_names (map view.member ms)) (take_all c.args.members.now c.loop-member.member-index (omega arith))
