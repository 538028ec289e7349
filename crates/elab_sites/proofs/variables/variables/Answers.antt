use Rattle.std.proofs.Common.{ap, map}
use Rattle.typing_symbols.specs.Scopes.{variable}
use Rattle.elab_sites.proofs.Declared.{function_all}
use Rattle.elab_sites.proofs.variables.variables.Goals as goal

pub returns : goal.returns
returns c =
    function_all c.args.function.now (map variable c.new-declared.result.items) _ _ _ c.deref.result.now c.deref-2.result.now c.deref-3.result.now (ap (map variable) c.new-declared.ensures.items) c.deref.ensures.value c.in_ok-add_parameters.ensures c.deref-2.ensures.value c.in_ok-add_parameters-2.ensures
    c.deref-3.ensures.value c.in_ok-add_statements.ensures
