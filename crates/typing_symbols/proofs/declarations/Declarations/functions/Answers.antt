use Rattle.typing_symbols.proofs.Declared.{functions_view}
use Rattle.typing_symbols.proofs.declarations.Declarations.functions.Goals as goal

pub returns : goal.returns
returns c =
    let d = c.args.self.now in
    rw c.deref.ensures.value (functions_view (λ e. e.now) d.functions.items d.items.now d.all_functions)
