use Rattle.std.proofs.Common.{arith}
use Rattle.typed_program.specs.Views.{spec}
use Rattle.elab_shapes.specs.Views.{part}
use Rattle.elab_shapes.proofs.ByParts.{plain_length, row_part}
use Rattle.elab_shapes.proofs.parts.one_of_row.Goals as goal

pub member-requires : goal.member-requires
member-requires c = omega (arith, plain_length c.args.xs.now, c.requires, c.if-i-eq0.false)

pub returns-else-i-eq0 : goal.returns-else-i-eq0
returns-else-i-eq0 c =
    row_part c.args.xs.now (spec c.args.x.now) c.args.i c.member.result.now (part c.plain-else-i-eq0.result) c.if-i-eq0.false c.requires c.member.ensures c.plain-else-i-eq0.ensures
