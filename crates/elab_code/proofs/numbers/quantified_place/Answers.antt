use Rattle.std.proofs.Common.{position, sym, ap, ◌∙◌, ◌+◌}
use Rattle.std.specs.Option.{option_map}
use Rattle.c_syntax.specs.Views as view
use Rattle.typing_spec.specs.Declarations.{same_name}
use Rattle.typing_expressions.specs.Views.{quantified}
use Rattle.elab_code.proofs.Positions.{passed, here, nowhere}
use Rattle.elab_code.proofs.numbers.quantified_place.Goals as goal

pub returns-then-same_name : goal.returns-then-same_name
returns-then-same_name c =
    here (λ v. same_name v.name (view.id c.args.name.now)) _ c.loop-rest.place (quantified c.loop-rest.rest.now) _ (quantified c.in-Variable.outer.now) (ap quantified c.in-Variable.is) (sym c.same_name.ensures ∙ c.if-same_name.true) c.loop-rest.invariant

pub loop-rest-preserved : goal.loop-rest-preserved
loop-rest-preserved c =
    passed (λ v. same_name v.name (view.id c.args.name.now)) _ c.loop-rest.place (quantified c.loop-rest.rest.now) _ (quantified c.in-Variable.outer.now) (ap quantified c.in-Variable.is) (sym c.same_name.ensures ∙ c.if-same_name.false) c.loop-rest.invariant
    ∙ ap (λ k. option_map (λ i. i + k) (position (λ v. same_name v.name (view.id c.args.name.now)) (quantified c.in-Variable.outer.now))) (sym c.in-Some.ensures.1)

pub returns : goal.returns
returns c = nowhere (λ v. same_name v.name (view.id c.args.name.now)) _ c.loop-rest.place (quantified c.loop-rest.rest.now) (ap quantified c.in_default.is) c.loop-rest.invariant
