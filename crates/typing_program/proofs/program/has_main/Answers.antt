use Rattle.std.proofs.Common.{refl, sym, ◌∙◌, Bor, arith}
use Rattle.c_syntax.specs.declared.items.Function.{Function}
use Rattle.c_syntax.specs.Views as view
use Rattle.typing_program.specs.Violation.{is_main}
use Rattle.typing_program.proofs.Steps.{one_true, one_false, none_true}
use Rattle.typing_program.proofs.program.has_main.Goals as goal

pub loop-x-init : goal.loop-x-init
loop-x-init c = refl

pub loop-x-preserved : goal.loop-x-preserved
loop-x-preserved c =
    one_false is_main (λ (f : Bor Function). view.function f.now) c.args.all.now c.loop-x.x-index c.x-item.result c.loop-x-test.true c.x-item.is (sym c.is_main.ensures ∙ c.if-is_main.false) c.loop-x.invariant

pub returns-then-is_main : goal.returns-then-is_main
returns-then-is_main c =
    one_true is_main (λ (f : Bor Function). view.function f.now) c.args.all.now c.loop-x.x-index c.x-item.result c.loop-x-test.true c.x-item.is (sym c.is_main.ensures ∙ c.if-is_main.true) c.loop-x.invariant

pub returns : goal.returns
returns c = none_true is_main (λ (f : Bor Function). view.function f.now) c.args.all.now c.loop-x.x-index (omega arith) c.loop-x.invariant
