use Rattle.typing_symbols.proofs.Declared.{entries_view}
use Rattle.typing_symbols.proofs.declarations.Declarations.structs.Goals as goal

pub returns : goal.returns
returns c =
    let d = c.args.self.now in
    rw c.deref.ensures.value (entries_view (λ e. e.tree.now) d.structs.items d.items.now d.all_structs)
