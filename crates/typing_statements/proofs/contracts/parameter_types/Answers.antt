use Rattle.std.proofs.Common.{sym, ap, ◌∙◌, List, map, take, arith}
use Rattle.std.specs.Prelude.{flat_map}
use Rattle.typing_expressions.specs.Violations.{breaking}
use Rattle.typing_expressions.proofs.Judgements.{own_type}
use Rattle.c_syntax.specs.declared.items.Parameter.{Parameter}
use Rattle.c_syntax.specs.Items.{Param}
use Rattle.typing_spec.specs.Pieces.{struct_name}
use Rattle.c_syntax.specs.Views as view
use Rattle.typing_symbols.specs.Whole.{program}
use Rattle.typing_expressions.specs.Violations.{Violations, violations, joined}
use Rattle.typing_expressions.specs.Views.{findings}
use Rattle.typing_expressions.proofs.FoundLaws.{found_none}
use Rattle.typing_expressions.proofs.Rows.{take_at, take_all}
use Rattle.typing_statements.proofs.Items.{each_more}
use Rattle.typing_statements.proofs.contracts.parameter_types.Goals as goal

pub loop-x-init : goal.loop-x-init
loop-x-init c = c.nothing-so_far.ensures ∙ sym found_none

pub loop-x-preserved : goal.loop-x-preserved
loop-x-preserved c =
    let k = program c.args.declarations.now in
    let done = map view.parameter (take c.loop-x.x-index c.args.all.now) in
    let y = view.parameter c.x-item.result in
    let one = c.breaking.ensures ∙ (ap breaking c.type_breaks.ensures ∙ sym (own_type k y.ty)) in
    c.then-so_far.ensures ∙ (ap (λ (f : Violations). joined f (findings c.breaking.result)) c.loop-x.invariant ∙ (ap (joined (violations (flat_map (λ (p : Param). struct_name (program c.args.declarations.now) p.ty) done))) one
    ∙ (sym (each_more (λ (p : Param). struct_name (program c.args.declarations.now) p.ty) done y) ∙ ap (λ (ys : List Param). violations (flat_map (λ (p : Param). struct_name (program c.args.declarations.now) p.ty) ys)) (sym (take_at view.parameter c.args.all.now c.loop-x.x-index c.x-item.result c.loop-x-test.true c.x-item.is)))))

pub returns : goal.returns
returns c = c.loop-x.invariant ∙ ap (λ (xs : List Parameter). violations (flat_map (λ (p : Param). struct_name (program c.args.declarations.now) p.ty) (map view.parameter xs))) (take_all c.args.all.now c.loop-x.x-index (omega arith))
