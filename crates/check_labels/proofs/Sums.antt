-- Tallies add up.
use Rattle.std.proofs.Common.{◌≡◌, ℕ, ap₂, add_assoc}
use Rattle.method.specs.Actions.{Tally, tally_plus}

pub plus_assoc : (a b c : Tally) → tally_plus (tally_plus a b) c ≡ tally_plus a (tally_plus b c)
plus_assoc a b c = ap₂ (λ (x y : ℕ). record { objects = x; claims = y }) (add_assoc a.objects b.objects c.objects) (add_assoc a.claims b.claims c.claims)
