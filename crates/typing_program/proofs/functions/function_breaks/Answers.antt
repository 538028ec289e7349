use Rattle.c_syntax.specs.Views as view
use Rattle.typing_symbols.specs.Whole.{program}
use Rattle.typing_expressions.specs.Views.{maybe_broken}
use Rattle.typing_program.proofs.Firsts.{function_with_parts}
use Rattle.typing_program.proofs.functions.function_breaks.Goals as goal

pub returns : goal.returns
returns c = function_with_parts (program c.args.declarations.now) (view.function c.args.x.now) (maybe_broken c.in_ok-own.own) _ c.in_ok-parts.parts c.in_ok-own.ensures c.in_ok-parts.ensures c.earlier.ensures
