use Rattle.std.proofs.Common.{◌≡◌, ℕ, List, position, take}
use Rattle.typing_symbols.specs.Lookup.{at}
use Rattle.typing_symbols.specs.Program.{is_field}
use Rattle.typing_symbols.proofs.declarations.field_places.Given as goal

abbrev pub invariant-loop-i : goal.invariant-loop-i
invariant-loop-i l = (y : List ℕ) → at l.places y ≡ position (λ f. is_field y f.now) (take l.i l.fields)
