use Rattle.std.proofs.Common.{List, map, ap, ◌∙◌}
use Rattle.c_syntax.specs.declared.items.Member.{Member}
use Rattle.c_syntax.specs.Views as view
use Rattle.elab_code.specs.Views.{around}
use Rattle.elab_annotations.specs.Views.{Several}
use Rattle.typing_symbols.specs.Whole.{program}
use Rattle.typed_program.specs.Tables.{invariants_of}
use Rattle.elab_clauses.specs.Numberings.{numbering}
use Rattle.elab_clauses.specs.Typing.{struct_invariants}
use Rattle.elab_clauses.proofs.Members.{struct_told}
use Rattle.elab_clauses.proofs.structs.told.Goals as goal

pub returns : goal.returns
returns c =
    let k = numbering c.args.numbering in
    let a = around c.args.around in
    let n = c.args.first in
    let rows = ap (λ (r : Several). r.specs) c.in_ok-rows.ensures ∙ ap (λ (xs : List Member). (struct_invariants k a n (invariants_of (map view.member xs))).specs) c.deref.ensures.value in
    c.info_of.ensures ∙ struct_told k (program c.args.around.context.scope.declarations.now) (view.struct c.args.entry.now.tree.now) n a c.requires c.in_ok-name.ensures c.in_ok-before.ensures c.in_ok-count.ensures rows c.in_ok-owned.ensures
