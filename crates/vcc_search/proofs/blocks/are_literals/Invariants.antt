use Rattle.std.proofs.Common.{◌<◌, ◌^◌, take, All}
use Rattle.terms.specs.declared.term.Literal.{Literal}
use Rattle.vcc_search.proofs.blocks.are_literals.Given as goal

abbrev pub invariant-loop-literal : goal.invariant-loop-literal
invariant-loop-literal l = record { fit : All (λ (x : Literal). x.term < 2 ^ 32) (take l.literal-index l.literals) }
