use Rattle.std.proofs.Common.{ap, ◌∙◌, List, map}
use Rattle.c_syntax.specs.declared.expressions.Expr.{Expr}
use Rattle.c_syntax.specs.Views as view
use Rattle.c_syntax.specs.Views.{exps}
use Rattle.typing_spec.specs.Conversions.{paired}
use Rattle.typing_expressions.specs.Violations.{Violations, joined, breaking}
use Rattle.typing_expressions.specs.Views.{context, findings, maybe_broken}
use Rattle.typing_statements.specs.Views.{values, values_of}
use Rattle.typing_statements.proofs.Parts.{call_of}
use Rattle.typing_statements.proofs.arguments.call.Goals as goal

pub returns : goal.returns
returns c =
    let k = context c.args.context in
    let d = context c.with_text.result in
    let x = view.call c.args.x.now in
    let ps = map view.parameter c.parameters_of.result.now in
    let gs = map view.parameter c.ghost_parameters_of.result.now in
    c.then-2.ensures
    ∙ (ap (λ (f : Violations). joined f (findings c.then.result)) c.breaking.ensures
    ∙ (ap (joined (breaking (maybe_broken c.called_breaks-own.result))) c.then.ensures
    ∙ call_of k d x _ ps gs (values_of c.arguments-code.result) (values_of c.arguments-ghosts.result) (maybe_broken c.earlier.result) (maybe_broken c.called_breaks-own.result)
    c.find_function-target.ensures c.parameters_of.ensures c.ghost_parameters_of.ensures c.with_text.ensures
    (c.arguments-code.ensures ∙ ap (λ (xs : List Expr). values k (exps xs) (paired k (exps xs) ps)) c.deref.ensures.value)
    (c.arguments-ghosts.ensures ∙ ap (λ (xs : List Expr). values d (exps xs) (paired d (exps xs) gs)) c.deref-2.ensures.value)
    c.earlier.ensures c.called_breaks-own.ensures))
