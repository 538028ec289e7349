-- What the code answers, beside what method says. Own.
use Rattle.std.specs.Prelude.{◌≡◌, None, Some, Result, Ok, Err}
use Rattle.method.specs.declared.program.Program.{Program}
use Rattle.method.specs.Machine as m
use Rattle.spec_values.specs.Answers.{operands}
use Rattle.ref_machine.specs.declared.state.State.{State}
use Rattle.ref_machine.specs.declared.step.Stepped.{Stepped}
use Rattle.ref_machine.specs.declared.step.Stepped.TheVariants.{Next, Fault, NotEnabled, Wide}
use Rattle.ref_machine.specs.declared.step.StepFault.{StepFault}
use Rattle.ref_machine.specs.States.{Stands}

-- the code's answer is the definition's; at Wide it has the operands of the first value on the way that leaves 128 bits
abbrev pub Steps : Stepped → Program → m.State → m.Event → State → Type 0
Steps (Next line) p s e c = (s' : m.State) × (m.step p s e ≡ m.Next s' line) × (m.step_overflow p s e ≡ None) × Stands s' c
Steps (Fault kind line) p s e c = (m.step p s e ≡ m.Faulted kind line) × (m.step_overflow p s e ≡ None)
Steps NotEnabled p s e c = (m.step p s e ≡ m.NotEnabled) × (m.step_overflow p s e ≡ None)
Steps (Wide w) p s e c = m.step_overflow p s e ≡ Some (operands w)

-- the state isn't to change
abbrev pub NotNext : Result Stepped StepFault → Type 0
NotNext (Ok (Next line)) = ⊥
NotNext (Ok (Fault kind line)) = Unit {0}
NotNext (Ok NotEnabled) = Unit {0}
NotNext (Ok (Wide w)) = Unit {0}
NotNext (Err fault) = Unit {0}
