-- Tallies in code. Own.
use Rattle.method.specs.Actions as spec
use Rattle.check_labels.specs.declared.tallies.Tally.{Tally}

-- the tally that the code's is
abbrev pub tally_of : Tally → spec.Tally
tally_of t = record { objects = t.objects; claims = t.claims }
