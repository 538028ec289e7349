use Rattle.method.specs.declared.program.FunctionInfo.{FunctionInfo}
use Rattle.conditions.specs.Quantified.{function_quantifiers}
use Rattle.program_quantifiers.proofs.Adding.{AddsUpTo}
use Rattle.program_quantifiers.proofs.functions.add_functions.Given as goal

abbrev pub invariant-loop-f : goal.invariant-loop-f
invariant-loop-f l = AddsUpTo (λ (s : Unit {0}). Unit {0}) (λ (s : Unit {0}) (x : FunctionInfo). function_quantifiers l.program x) l.fn.list l.list l.functions l.f-index
