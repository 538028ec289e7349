-- What a store and a sink that tell no bytes are seen as. Own.
use Rattle.std.specs.Prelude.{ℕ}

-- how many reads and how many writes failed
pub record FaultCounts : Type 0 where
  pub reads : ℕ
  pub writes : ℕ
