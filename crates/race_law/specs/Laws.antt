-- What is promised of data races. Own.
use Rattle.method.specs.declared.program.Program.{Program}
use Rattle.method.specs.Machine.{Safe}
use Rattle.method.specs.Typing.{WellTyped}
use Rattle.method.specs.Trace.{Memory}
use Rattle.safe_counter.specs.Shared.{program as counter_program}
use Rattle.race_law.specs.Races.{NoDataRaces}

-- A safe program has no data race.
abbrev pub SafeIsRaceFree : Type 0
SafeIsRaceFree = (p : Program) → WellTyped p → Safe p → NoDataRaces p

-- the counter's program with two threads has none, whatever memory its vectors lie in
abbrev pub CounterIsRaceFree : Type 0
CounterIsRaceFree = (m : Memory) → NoDataRaces (counter_program m)
