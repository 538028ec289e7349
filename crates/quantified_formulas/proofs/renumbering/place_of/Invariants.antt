use Rattle.std.specs.Prelude.{◌≡◌, drop}
use Rattle.conditions.specs.Quantified.{place_from}
use Rattle.quantified_formulas.proofs.renumbering.place_of.Given as goal

abbrev pub invariant-loop-i : goal.invariant-loop-i
invariant-loop-i l = place_from l.i l.number (drop l.i l.places) ≡ place_from 0 l.number l.places
