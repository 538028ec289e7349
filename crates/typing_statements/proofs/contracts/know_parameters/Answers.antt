use Rattle.std.proofs.Common.{refl, sym, ap, ◌∙◌, List, ◌∷◌, map, take, arith}
use Rattle.c_syntax.specs.declared.items.Parameter.{Parameter}
use Rattle.c_syntax.specs.Items.{Param}
use Rattle.c_syntax.specs.Views as view
use Rattle.typing_spec.specs.Contexts.{Variable}
use Rattle.typing_symbols.specs.Scopes.{known}
use Rattle.typing_expressions.proofs.Rows.{take_at, take_all}
use Rattle.typing_statements.specs.Parts.{with_parameters}
use Rattle.typing_statements.proofs.Items.{parameters_more}
use Rattle.typing_statements.proofs.contracts.know_parameters.Goals as goal

pub loop-x-init : goal.loop-x-init
loop-x-init c = refl

pub loop-x-preserved : goal.loop-x-preserved
loop-x-preserved c =
    let g = c.args.is_ghost in
    let vs0 = known c.args.variables.now in
    let done = map view.parameter (take c.loop-x.x-index c.args.all.now) in
    let y = view.parameter c.x-item.result in
    c.in_ok-push.ensures ∙ (ap (λ (vs : List Variable). (record { name = y.name; ty = y.ty; is_ghost = g }) ∷ vs) c.loop-x.invariant
    ∙ (sym (parameters_more g done y vs0) ∙ ap (λ (ys : List Param). with_parameters g ys vs0) (sym (take_at view.parameter c.args.all.now c.loop-x.x-index c.x-item.result c.loop-x-test.true c.x-item.is))))

pub returns : goal.returns
returns c = c.loop-x.invariant ∙ ap (λ (xs : List Parameter). with_parameters c.args.is_ghost (map view.parameter xs) (known c.args.variables.now)) (take_all c.args.all.now c.loop-x.x-index (omega arith))
