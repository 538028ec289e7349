-- What it is for a program to be safe without its annotations, and for plain runs to be the machine's runs. Own.
use Rattle.std.specs.Prelude.{◌≡◌, List}
use Rattle.method.specs.declared.program.Program.{Program}
use Rattle.object_types.specs.Heap.{Same}
use Rattle.method.specs.Legal.{Good}
use Rattle.method.specs.Machine.{State, Event, IsStart, run}
use Rattle.plain_machine.specs.PlainSteps.{PlainState, PlainAnswer, NotEnabled, Faulted, Next, plain_step, plain_run}
use Rattle.plain_machine.specs.Erasure.{erasure}

abbrev pub NoFault : PlainAnswer → Type 0
NoFault NotEnabled = Unit {0}
NoFault (Faulted kind line) = ⊥
NoFault (Next s line) = Unit {0}

-- from the erasure of each start on a good heap, no plain event after any others is a fault
abbrev pub SafePlain : Program → Type 0
SafePlain p = (s : State) → IsStart p s → Good p s.heap → (events : List Event) (e : Event) → NoFault (plain_step p (plain_run p events (erasure p s)) e)

-- the same records, threads and absent owners; a heap's list of references beside its records doesn't count
pub record SamePlain (s s' : PlainState) : Type 0 where
  pub heap : Same s.heap s'.heap
  pub threads : s'.threads ≡ s.threads
  pub skips : s'.skips ≡ s.skips

-- the states that plain events reach are the erasures of the states that the machine reaches
pub record ReachesErasures (p : Program) (s : State) : Type 0 where
  pub plainly : (events : List Event) → (plain_events : List Event) × SamePlain (plain_run p plain_events (erasure p s)) (erasure p (run p events s))
  pub back : (plain_events : List Event) → (events : List Event) × SamePlain (plain_run p plain_events (erasure p s)) (erasure p (run p events s))
