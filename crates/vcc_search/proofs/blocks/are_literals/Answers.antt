use Rattle.std.proofs.Common.{◌<◌, ◌^◌, List, All, subst, arith}
use Rattle.std.proofs.lemmas.List.{take_all}
use Rattle.std.proofs.lemmas.List.Elements.{All-more}
use Rattle.terms.specs.declared.term.Literal.{Literal}
use Rattle.vcc_search.proofs.blocks.are_literals.Goals as goal

pub loop-literal-preserved : goal.loop-literal-preserved
loop-literal-preserved c = record { fit = All-more (λ (x : Literal). x.term < 2 ^ 32) c.args.literals.now c.loop-literal.literal-index _ c.loop-literal-test.true c.loop-literal.invariant.fit c.is_literal.ensures }

pub returns : goal.returns
returns c = subst (λ (xs : List Literal). All (λ (x : Literal). x.term < 2 ^ 32) xs) (take_all c.loop-literal.literal-index c.args.literals.now (omega (arith, c.loop-literal-test.false))) c.loop-literal.invariant.fit
