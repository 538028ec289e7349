use Rattle.std.proofs.Common.{◌≡◌, map, take}
use Rattle.typing_symbols.specs.Counts.{starts}
use Rattle.typing_symbols.proofs.Counts.{counted}
use Rattle.typing_symbols.proofs.declarations.field_starts.Given as goal

abbrev pub invariant-loop-entry : goal.invariant-loop-entry
invariant-loop-entry l = record { so_far : l.all.items ≡ starts 0 (map (λ s. s.tree.now) (take l.entry-index l.entries)); counts : l.count ≡ counted (map (λ s. s.tree.now) (take l.entry-index l.entries)) }
