use Rattle.std.proofs.Common.{◌≡◌, map, take}
use Rattle.typing_symbols.specs.Program.{structs_in}
use Rattle.typing_symbols.proofs.declarations.struct_entries.Given as goal

abbrev pub invariant-loop-item : goal.invariant-loop-item
invariant-loop-item l = map (λ s. s.tree.now) l.entries.items ≡ structs_in (take l.item-index l.items)
