use Rattle.std.proofs.Common.{◌≡◌, map, take}
use Rattle.typing_symbols.specs.Program.{functions_in}
use Rattle.typing_symbols.proofs.declarations.functions_of.Given as goal

abbrev pub invariant-loop-item : goal.invariant-loop-item
invariant-loop-item l = map (λ f. f.now) l.functions.items ≡ functions_in (take l.item-index l.items)
