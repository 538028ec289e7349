use Rattle.std.proofs.Common.{◌∙◌, arith}
use Rattle.rule_instances.proofs.Reading.{no_refs, too_many, refs_of, filled_up}
use Rattle.rule_instances.proofs.block.Block.take_references.Goals as goal

pub returns-in_default : goal.returns-in_default
returns-in_default c = λ ts l tree is. no_refs l tree c.in_default.ensures.none

pub returns-then-count-len : goal.returns-then-count-len
returns-then-count-len c = λ ts l tree is. too_many l tree c.in-Some.ensures.some (omega (arith, c.len.ensures, c.if-count-len.true))

pub returns : goal.returns
returns c = λ ts l tree is. refs_of c.take_all.new.numbers ts l tree _ c.in-Some.ensures.some (c.deref.ensures.value ∙ filled_up c.in-Some.count c.new-sorts.ensures.items c.new-sorts.ensures.len c.in_ok-resize.ensures.items) (c.in_ok-ids.ensures ts l tree is)
