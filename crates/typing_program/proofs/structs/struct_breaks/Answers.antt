use Rattle.c_syntax.specs.Views as view
use Rattle.typing_symbols.specs.Whole.{program}
use Rattle.typing_expressions.specs.Views.{maybe_broken}
use Rattle.typing_program.proofs.Firsts.{struct_with_members}
use Rattle.typing_program.proofs.structs.struct_breaks.Goals as goal

pub returns : goal.returns
returns c = struct_with_members (program c.args.declarations.now) (view.struct c.args.x.now.tree.now) (maybe_broken c.in_ok-own.own) _ c.struct_members-members.result c.in_ok-own.ensures c.struct_members-members.ensures c.earlier.ensures
