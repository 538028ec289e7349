-- What a store and a sink in memory are seen as. Own.
use Rattle.std.specs.Prelude.{ℕ, ◌+◌, List, [], ◌∷◌, cond, Some, None}
use Rattle.std.specs.Str.{bytes_eq}
use Rattle.vcc_base.specs.Maps.{Map}

-- the bytes that the first entry of this name holds
abbrev pub look_up : List (List ℕ × List ℕ) → Map
look_up [] q = None
look_up (e ∷ es) q = cond (bytes_eq e.0 q) (Some e.1) (look_up es q)

-- a store: its names and what they hold, the numbers of the calls that are to fail, how many calls were made, and how many reads and writes failed
pub record StoreState : Type 0 where
  pub held : List (List ℕ × List ℕ)
  pub fails : List ℕ
  pub calls : ℕ
  pub read_faults : ℕ
  pub write_faults : ℕ

-- a store after one call more that left it holding this
abbrev pub called : StoreState → List (List ℕ × List ℕ) → StoreState
called s held = record s { held = held; calls = s.calls + 1 }

-- a store after a read that failed
abbrev pub read_failed : StoreState → StoreState
read_failed s = record s { calls = s.calls + 1; read_faults = s.read_faults + 1 }

-- a store after a write that failed
abbrev pub write_failed : StoreState → StoreState
write_failed s = record s { calls = s.calls + 1; write_faults = s.write_faults + 1 }

-- a sink: the bytes written, the numbers of the calls that are to fail, how many calls were made, and how many failed
pub record SinkState : Type 0 where
  pub written : List ℕ
  pub fails : List ℕ
  pub calls : ℕ
  pub faults : ℕ

-- a sink after one call more that left these bytes written
abbrev pub put_done : SinkState → List ℕ → SinkState
put_done s written = record s { written = written; calls = s.calls + 1 }

-- a sink after a write that failed
abbrev pub put_failed : SinkState → SinkState
put_failed s = record s { calls = s.calls + 1; faults = s.faults + 1 }
