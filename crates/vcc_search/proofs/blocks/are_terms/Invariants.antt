use Rattle.std.proofs.Common.{take, All}
use Rattle.cert_format.specs.Text.{IsTerm}
use Rattle.vcc_search.proofs.blocks.are_terms.Given as goal

abbrev pub invariant-loop-term : goal.invariant-loop-term
invariant-loop-term l = record { fit : All IsTerm (take l.term-index l.terms) }
