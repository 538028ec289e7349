use Rattle.method.specs.declared.program.FunctionInfo.{FunctionInfo}
use Rattle.conditions.specs.Quantified.{function_quantifiers}
use Rattle.program_quantifiers.proofs.Adding.{row_first, row_next, row_last}
use Rattle.program_quantifiers.proofs.functions.add_functions.Goals as goal

pub loop-f-init : goal.loop-f-init
loop-f-init c = row_first (λ (s : Unit {0}). Unit {0}) (λ (s : Unit {0}) (x : FunctionInfo). function_quantifiers c.args.program.now x) c.args.list.now c.args.functions.now

pub loop-f-preserved : goal.loop-f-preserved
loop-f-preserved c =
    row_next (λ (s : Unit {0}). Unit {0}) (λ (s : Unit {0}) (x : FunctionInfo). function_quantifiers c.args.program.now x) c.args.list.now c.loop-f.list _ c.args.functions.now c.loop-f.f-index c.f-item.result c.f-item.result c.loop-f.invariant c.loop-f-test.true c.f-item.is (λ s known later. c.in_ok-add_function.ensures)

pub returns : goal.returns
returns c = row_last c.loop-f.invariant c.loop-f-test.false tt tt
