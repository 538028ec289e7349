use Rattle.std.proofs.Common.{◌≡◌, ℕ, List, position, take}
use Rattle.typing_symbols.specs.Lookup.{at}
use Rattle.elab_code.specs.Names.{has_text}
use Rattle.elab_code.proofs.places.places_of.Given as goal

abbrev pub invariant-loop-i : goal.invariant-loop-i
invariant-loop-i l = (y : List ℕ) → at l.places y ≡ position (has_text y) (take l.i l.names)
