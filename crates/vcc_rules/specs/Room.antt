-- What a borrow of the room leaves.
use Rattle.std.specs.Prelude.{ℕ, List}
use Rattle.std.specs.Borrow.{Lends, MutBor, Fml, Array}
use Rattle.vcc_rules.specs.declared.rule.Summand.{Summand}
use Rattle.vcc_rules.specs.contracts.rule.Scratch as scratch
use Rattle.vcc_rules.specs.contracts.rule.Summand as summand

-- whatever is written there, there is room for as many terms behind it
abbrev pub LendsSummands : MutBor ℕ → MutBor (List Summand) → Fml
LendsSummands room summands = Lends scratch.the_row (Array summand.the_row 0) room summands (λ _. room.now)
