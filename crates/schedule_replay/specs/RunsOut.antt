-- Where the code's numbers run out on the way of a replay. Own.
use Rattle.std.specs.Prelude.{◌⊎◌, List, [], ◌∷◌}
use Rattle.object_types.specs.Heap.{empty_heap}
use Rattle.method.specs.declared.program.Program.{Program}
use Rattle.method.specs.Expressions.{End, Misfit, Failed, Gave}
use Rattle.method.specs.Machine.{State, Event, Answer, NotEnabled, Faulted, Next, step}
use Rattle.method.specs.Starts.{start}
use Rattle.schedule_format.specs.Schedules.{Schedule}
use Rattle.ref_machine.specs.RunsOut.{StepRunsOut}

-- the answer is a next state, of which Q holds
abbrev pub Leads : Answer → (State → Type 0) → Type 0
Leads NotEnabled Q = ⊥
Leads (Faulted kind line) Q = ⊥
Leads (Next s line) Q = Q s

-- the numbers run out at the step of one of these events: of the first, or of a later one, in the state that the steps before it lead to
abbrev pub EventsRunOut : Program → List Event → State → Type 0
EventsRunOut p [] s = ⊥
EventsRunOut p (e ∷ es) s = StepRunsOut p s e ⊎ Leads (step p s e) (λ s'. EventsRunOut p es s')

abbrev pub BegunRunsOut : Program → List Event → End State → Type 0
BegunRunsOut p es Misfit = ⊥
BegunRunsOut p es (Failed n kind line) = ⊥
BegunRunsOut p es (Gave s) = EventsRunOut p es s

-- The numbers run out on the way of the schedule's replay from the empty heap: main starts, and at one of the events they do.
abbrev pub ReplayRunsOut : Program → Schedule → Type 0
ReplayRunsOut p schedule = BegunRunsOut p schedule.events (start p empty_heap schedule.arguments).end
