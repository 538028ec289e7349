use Rattle.std.specs.Int.{w128}
use Rattle.std.proofs.lemmas.Int.{to_z-of_z}
use Rattle.condition_formulas.proofs.Symbolics.{is_number}
use Rattle.condition_code.proofs.Walks.{gives}
use Rattle.condition_code.proofs.forms.literal.Goals as goal

pub returns : goal.returns
returns c = gives c.in_ok-id.ensures.later (is_number (rw (to_z-of_z w128 c.args.z c.ranges.z) at c.in_ok-id.ensures.stands))
