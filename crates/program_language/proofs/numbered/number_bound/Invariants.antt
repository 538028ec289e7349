use Rattle.std.specs.Prelude.{◌≡◌, ◌≤◌, length, drop}
use Rattle.program_language.specs.Numbered.{bound_of}
use Rattle.program_language.proofs.numbered.number_bound.Given as goal

abbrev pub decreases-loop-i : goal.decreases-loop-i
decreases-loop-i l = l.i

abbrev pub invariant-loop-i : goal.invariant-loop-i
invariant-loop-i l = (l.i ≤ length l.formulas) × (l.bound ≡ bound_of (drop l.i l.formulas))
