-- Which answers are read faults, and how many reads failed.
use Rattle.std.specs.Prelude.{ℕ, Result, Err}
use Rattle.vcc_io.specs.declared.refusal.Refusal.{Refusal}
use Rattle.vcc_io.specs.declared.refusal.Refusal.TheVariants.{ReadFault}

abbrev pub IsReadFault : {X : Type 0} → Result X Refusal → Type 0
IsReadFault (Err (ReadFault name)) = Unit {0}
IsReadFault _ = ⊥

-- how many reads failed before and after
pub record ReadCounts : Type 0 where
  pub reads_before : ℕ
  pub reads_after : ℕ

-- these counts
abbrev pub read_counts : ℕ → ℕ → ReadCounts
read_counts m n = record { reads_before = m; reads_after = n }
