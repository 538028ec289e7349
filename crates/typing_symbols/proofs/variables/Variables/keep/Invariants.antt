use Rattle.std.proofs.Common.{◌≡◌, ◌≤◌, ◌-◌, length, drop}
use Rattle.typing_symbols.specs.Scopes.{known}
use Rattle.typing_symbols.proofs.variables.Variables.keep.Given as goal

abbrev pub invariant-loop-self : goal.invariant-loop-self
invariant-loop-self l =
    (l.count ≤ length (known l.self)) × (length (known l.self) ≤ length (known l.initial.self))
    × (known l.self ≡ drop (length (known l.initial.self) - length (known l.self)) (known l.initial.self))

abbrev pub decreases-loop-self : goal.decreases-loop-self
decreases-loop-self l = length (known l.self)
