use Rattle.std.proofs.Common.{ap, ◌∙◌, List, Bor}
use Rattle.c_syntax.specs.declared.expressions.Identifier.{Identifier}
use Rattle.c_syntax.specs.Views as view
use Rattle.typing_expressions.specs.Views.{maybe_broken}
use Rattle.typing_program.specs.Violation.{twice}
use Rattle.typing_program.specs.Names.{held}
use Rattle.typing_program.proofs.Firsts.{function_together}
use Rattle.typing_program.proofs.functions.own_breaks.Goals as goal

pub returns : goal.returns
returns c =
    function_together (view.function c.args.x.now) (held c.in_ok-names.names.items) c.is_open.result (maybe_broken c.in_ok-twice.twice) (maybe_broken c.broken_if-form.result) _ c.in_ok-names.ensures
    (c.in_ok-twice.ensures ∙ ap (λ (ns : List (Bor Identifier)). twice (held ns)) c.deref.ensures.value) c.is_open.ensures c.broken_if-form.ensures c.earlier.ensures
