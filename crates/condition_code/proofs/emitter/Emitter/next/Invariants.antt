use Rattle.std.proofs.Common.{◌-◌, length}
use Rattle.condition_code.proofs.Emitters.{Emits}
use Rattle.condition_code.proofs.emitter.Emitter.next.Given as goal

abbrev pub invariant-loop-self : goal.invariant-loop-self
invariant-loop-self l = Emits l.fn.graph l.graph l.fn.self l.self l.path

abbrev pub decreases-loop-self : goal.decreases-loop-self
decreases-loop-self l = length l.path - l.self.at
