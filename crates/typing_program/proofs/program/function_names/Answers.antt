use Rattle.std.proofs.Common.{ap, ◌∙◌, [], arith, Bor}
use Rattle.c_syntax.specs.declared.items.Function.{Function}
use Rattle.c_syntax.specs.Items.{FunctionTree}
use Rattle.c_syntax.specs.Views as view
use Rattle.typing_program.specs.Names.{held}
use Rattle.typing_program.proofs.Steps.{held_more, named, all_named}
use Rattle.typing_program.proofs.program.function_names.Goals as goal

pub loop-x-preserved : goal.loop-x-preserved
loop-x-preserved c =
    named (λ (f : FunctionTree). f.name) (λ (f : Bor Function). view.function f.now) [] (held c.loop-x.names.items) _ c.args.all.now c.loop-x.x-index c.x-item.result c.loop-x-test.true c.x-item.is c.loop-x.invariant (ap held c.in_ok-push.ensures.items ∙ held_more c.loop-x.names.items _)

pub returns : goal.returns
returns c = all_named (λ (f : FunctionTree). f.name) (λ (f : Bor Function). view.function f.now) [] (held c.loop-x.names.items) c.args.all.now c.loop-x.x-index (omega arith) c.loop-x.invariant
