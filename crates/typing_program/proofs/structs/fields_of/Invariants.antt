use Rattle.std.proofs.Common.{◌≡◌, take, map}
use Rattle.c_syntax.specs.Views as view
use Rattle.typing_program.specs.Names.{held, field_names}
use Rattle.typing_program.proofs.structs.fields_of.Given as goal

abbrev pub invariant-loop-member : goal.invariant-loop-member
invariant-loop-member l = held l.names.items ≡ field_names (map view.member (take l.member-index l.members))
