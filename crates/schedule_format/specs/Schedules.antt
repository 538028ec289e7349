-- Schedules: which thread takes the next step, and with which choices (an interleaving, as in CAV 2010). Own: main's arguments beside the events.
use Rattle.std.specs.Prelude.{List}
use Rattle.object_types.specs.declared.values.Value.{Value}
use Rattle.method.specs.Machine.{Event}

pub record Schedule : Type 0 where
  pub arguments : List Value
  pub events : List Event
