use Rattle.std.proofs.Common.{ℤ, List, FitsSigned, All, subst, arith}
use Rattle.std.proofs.lemmas.List.{take_all}
use Rattle.std.proofs.lemmas.List.Elements.{All-more}
use Rattle.std.specs.Int.{w128}
use Rattle.vcc_search.proofs.blocks.are_numbers.Goals as goal

pub loop-number-preserved : goal.loop-number-preserved
loop-number-preserved c = record { fit = All-more (λ n. FitsSigned w128 n) c.args.numbers.now c.loop-number.number-index _ c.loop-number-test.true c.loop-number.invariant.fit c.is_number.ensures }

pub returns : goal.returns
returns c = subst (λ (xs : List ℤ). All (λ n. FitsSigned w128 n) xs) (take_all c.loop-number.number-index c.args.numbers.now (omega (arith, c.loop-number-test.false))) c.loop-number.invariant.fit
