use Rattle.typing_symbols.proofs.Declared.{fields_view}
use Rattle.typing_symbols.proofs.declarations.StructEntry.fields.Goals as goal

pub returns : goal.returns
returns c =
    let d = c.args.self.now in
    rw c.deref.ensures.value (fields_view (λ e. e.now) d.fields.items d.tree.now.members.items d.all_fields)
