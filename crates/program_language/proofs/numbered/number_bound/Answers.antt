use Rattle.std.specs.Prelude.{◌≡◌, drop}
use Rattle.std.proofs.Common.{ap, ◌∙◌, arith}
use Rattle.program_language.specs.Numbered.{bound_of}
use Rattle.program_language.proofs.Finding.{bound_next}
use Rattle.program_language.proofs.numbered.number_bound.Goals as goal

pub loop-i-preserved : goal.loop-i-preserved
loop-i-preserved c = (omega (arith, c.loop-i.invariant.0), c.above-bound.ensures ∙ bound_next c.args.formulas.now c.loop-i.i c.loop-i.bound c.index-formulas-i.result (omega (arith, c.loop-i-test.true)) c.loop-i.invariant.0 c.loop-i.invariant.1)

pub returns : goal.returns
returns c =
    let none : c.loop-i.i ≡ 0 = omega arith in
    c.loop-i.invariant.1 ∙ ap (λ k. bound_of (drop k c.args.formulas.now)) none
