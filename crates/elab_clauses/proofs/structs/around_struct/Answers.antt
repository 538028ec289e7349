use Rattle.c_syntax.specs.Views as view
use Rattle.typing_symbols.specs.Whole.{program}
use Rattle.elab_clauses.proofs.Members.{around_is}
use Rattle.elab_clauses.proofs.structs.around_struct.Goals as goal

pub returns : goal.returns
returns c = around_is (program c.args.declarations.now) (view.struct c.args.entry.now.tree.now) c.requires.no_quantifier c.requires.no_variable c.requires.no_name
