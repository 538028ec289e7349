use Rattle.std.specs.Prelude.{◌≡◌, ◌-◌, length}
use Rattle.vcc_judge.specs.Remaining.{formulas_from}
use Rattle.vcc_judge.proofs.sequence.Conditions.give_behind.Given as goal

abbrev pub invariant-loop-self : goal.invariant-loop-self
invariant-loop-self l = formulas_from l.program l.self.place ≡ formulas_from l.program l.fn.self.place

abbrev pub decreases-loop-self : goal.decreases-loop-self
decreases-loop-self l = length l.program.items.items - l.self.place
