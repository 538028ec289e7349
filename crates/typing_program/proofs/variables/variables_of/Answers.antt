use Rattle.std.proofs.Common.{ap}
use Rattle.typing_program.specs.Names.{held}
use Rattle.typing_program.proofs.Declaring.{function_all}
use Rattle.typing_program.proofs.variables.variables_of.Goals as goal

pub returns : goal.returns
returns c =
    function_all c.args.x.now (held c.new-names.result.items) _ _ _ c.deref.result.now c.deref-2.result.now c.deref-3.result.now (ap held c.new-names.ensures.items) c.deref.ensures.value c.in_ok-add_parameters.ensures c.deref-2.ensures.value c.in_ok-add_parameters-2.ensures c.deref-3.ensures.value
    c.in_ok-add_statements.ensures
