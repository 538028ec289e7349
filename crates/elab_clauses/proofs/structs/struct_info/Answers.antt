use Rattle.std.proofs.Common.{map, ap, ◌∙◌}
use Rattle.c_syntax.specs.Views as view
use Rattle.typing_symbols.specs.Whole.{program}
use Rattle.typed_program.specs.Numbers.{Around}
use Rattle.typed_program.specs.Views as seen
use Rattle.elab_clauses.proofs.Members.{no_variables}
use Rattle.elab_clauses.proofs.structs.struct_info.Goals as goal

pub returns : goal.returns
returns c =
    c.in_ok-info.ensures ∙ no_variables (map seen.shape c.args.shapes.now) (program c.args.declarations.now) (view.struct c.args.entry.now.tree.now) c.args.first c.no_sorts-sorts.ensures (ap (λ (a : Around). a.context.scope.items) c.around_struct-around.ensures)
