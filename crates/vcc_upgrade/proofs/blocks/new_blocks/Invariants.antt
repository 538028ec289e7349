use Rattle.vcc_upgrade.proofs.Written.{IsUpTo}
use Rattle.vcc_upgrade.proofs.blocks.new_blocks.Given as goal

abbrev pub invariant-loop-place : goal.invariant-loop-place
invariant-loop-place l = IsUpTo l.lemmas l.trees l.blocks l.new.items l.place
