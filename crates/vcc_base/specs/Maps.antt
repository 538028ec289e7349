-- What a store holds, and what its calls do to that. Own.
use Rattle.std.specs.Prelude.{◌≡◌, ◌≢◌, ℕ, ◌<◌, ◌≤◌, List, ◌++◌, length, take, drop, Option, Some, None}

-- which names hold which bytes
abbrev pub Map : Type 0
Map = List ℕ → Option (List ℕ)

-- what holds of the map, where the store tells it
abbrev pub IfTold : Option Map → (Map → Type 0) → Type 0
IfTold None P = Unit {0}
IfTold (Some m) P = P m

-- what holds of the bytes of a name, where it has some
abbrev pub IfHeld : Map → List ℕ → (List ℕ → Type 0) → Type 0
IfHeld m name P = (bytes : List ℕ) → m name ≡ Some bytes → P bytes

-- n bytes of a piece are those of the text from the offset on; at least one, where there are some and some were asked for
pub record IsPieceOf (bytes : List ℕ) (offset n asked : ℕ) (piece : List ℕ) : Type 0 where
  pub fits : n ≤ length (drop offset bytes)
  pub same : take n piece ≡ take n (drop offset bytes)
  pub some : 0 < asked → offset < length bytes → 0 < n

-- the new map is the old one but for this name, which holds these bytes
pub record Holds (old new : Map) (name bytes : List ℕ) : Type 0 where
  pub held : new name ≡ Some bytes
  pub others : (q : List ℕ) → q ≢ name → new q ≡ old q

-- the same, of what a store tells before and after
abbrev pub NowHolds : Option Map → Option Map → List ℕ → List ℕ → Type 0
NowHolds old new name bytes = IfTold old (λ m. (n : Map) × (new ≡ Some n) × Holds m n name bytes)

-- the name holds these bytes and some first bytes of the piece behind them
abbrev pub FrontHeld : Option Map → Option Map → List ℕ → List ℕ → List ℕ → Type 0
FrontHeld old new name bytes piece = (n : ℕ) × (n ≤ length piece) × NowHolds old new name (bytes ++ take n piece)

-- more was written: these bytes, behind what was there, where the bytes written are told
abbrev pub NowWritten : Option (List ℕ) → Option (List ℕ) → List ℕ → Type 0
NowWritten None new bytes = Unit {0}
NowWritten (Some old) new bytes = new ≡ Some (old ++ bytes)

-- some first bytes of the piece were written, where the bytes written are told
abbrev pub FrontWritten : Option (List ℕ) → Option (List ℕ) → List ℕ → Type 0
FrontWritten old new piece = (n : ℕ) × (n ≤ length piece) × NowWritten old new (take n piece)
