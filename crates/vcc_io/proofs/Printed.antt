-- Lines, by other names of their parts.
use Rattle.std.proofs.Common.{◌≡◌, ℕ, ℤ, List, ◌++◌, Option, Result, codes, decimal, subst}
use Rattle.vcc_base.specs.declared.sink.SinkFault.{SinkFault}
use Rattle.schedule_replay.specs.Printing.{Front, Writes}
use Rattle.vcc_io.specs.Lines.{line, wide_line}

module _ {X : Type 0} (r : Result X SinkFault) (old new : Option (List ℕ)) where
  -- a line's fault
  pub fault_written : (front : List ℕ) (n : ℕ) (a b : List ℕ) → a ≡ b → Writes r old new (front ++ (decimal n ++ (codes ": " ++ line a))) → Writes r old new (front ++ (decimal n ++ (codes ": " ++ line b)))
  fault_written front n a b is h = subst (λ (name : List ℕ). Writes r old new (front ++ (decimal n ++ (codes ": " ++ line name)))) is h

  pub fault_front : (front : List ℕ) (n : ℕ) (a b : List ℕ) → a ≡ b → Front r old new (front ++ (decimal n ++ (codes ": " ++ line a))) → Front r old new (front ++ (decimal n ++ (codes ": " ++ line b)))
  fault_front front n a b is h = subst (λ (name : List ℕ). Front r old new (front ++ (decimal n ++ (codes ": " ++ line name)))) is h

  -- the operands of a number that leaves 128 bits
  pub wide_written : (a b left right : ℤ) → a ≡ left → b ≡ right → Writes r old new (wide_line a b) → Writes r old new (wide_line left right)
  wide_written a b left right first second h = subst (λ (z : ℤ). Writes r old new (wide_line left z)) second (subst (λ (z : ℤ). Writes r old new (wide_line z b)) first h)

  pub wide_front : (a b left right : ℤ) → a ≡ left → b ≡ right → Front r old new (wide_line a b) → Front r old new (wide_line left right)
  wide_front a b left right first second h = subst (λ (z : ℤ). Front r old new (wide_line left z)) second (subst (λ (z : ℤ). Front r old new (wide_line z b)) first h)
