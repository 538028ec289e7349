-- What names hold, and why a read refuses.
use Rattle.std.specs.Prelude.{◌≡◌, ◌⊎◌, ℕ, ◌<◌, ◌≤◌, List, length, Some, IsNone}
use Rattle.vcc_base.specs.Maps.{Map}
use Rattle.vcc_base.specs.Limits.{number_of}
use Rattle.vcc_base.specs.declared.limit.Limit.{Limit as AnyLimit}
use Rattle.vcc_base.specs.declared.limit.Limit.TheVariants.{SourceBytes}
use Rattle.method.specs.declared.program.Program.{Program}
use Rattle.c_types.specs.Typed.{IsProgramOf}
use Rattle.vcc_io.specs.declared.refusal.Refusal.{Refusal}
use Rattle.vcc_io.specs.declared.refusal.Refusal.TheVariants.{Limit, Missing, ReadFault, OutOfMemory}
use Rattle.vcc_io.specs.Source.{IsSourceRefusalOrMemory}

-- the name holds these bytes, no more than the limit allows
abbrev pub HoldsWithin : Map → List ℕ → AnyLimit → List ℕ → Type 0
HoldsWithin m name limit bytes = (m name ≡ Some bytes) × (length bytes ≤ number_of limit)

-- the name holds more bytes than the limit allows
abbrev pub HoldsTooMuch : Map → List ℕ → AnyLimit → Type 0
HoldsTooMuch m name limit = (bytes : List ℕ) × (m name ≡ Some bytes) × (number_of limit < length bytes)

-- what a read refuses: the name isn't held, a read failed, more is held than the limit allows, or memory is wanted
abbrev pub IsUnread : Map → List ℕ → AnyLimit → Refusal → Type 0
IsUnread m name limit (Missing n) = (n.now ≡ name) × IsNone (m name)
IsUnread m name limit (ReadFault n) = (n.now ≡ name) × (IsNone (m name) → ⊥)
IsUnread m name limit (Limit l) = (l ≡ limit) × HoldsTooMuch m name limit
IsUnread m name limit OutOfMemory = Unit {0}
IsUnread m name limit _ = ⊥

-- the name holds the text of this program
pub record HoldsProgram (m : Map) (name : List ℕ) (p : Program) : Type 0 where
  pub source : List ℕ
  pub held : HoldsWithin m name SourceBytes source
  pub program : IsProgramOf source p

-- the source's read refuses, or its bytes do
abbrev pub IsSourceStop : Map → List ℕ → Refusal → Type 0
IsSourceStop m name refusal = IsUnread m name SourceBytes refusal ⊎ ((source : List ℕ) × HoldsWithin m name SourceBytes source × IsSourceRefusalOrMemory source refusal)
