use Rattle.std.proofs.Common.{◌≡◌, ◌+◌, position}
use Rattle.std.specs.Option.{option_map}
use Rattle.c_syntax.specs.Views as view
use Rattle.typing_spec.specs.Declarations.{same_name}
use Rattle.typing_expressions.specs.Views.{quantified}
use Rattle.elab_code.proofs.numbers.quantified_place.Given as goal

abbrev pub invariant-loop-rest : goal.invariant-loop-rest
invariant-loop-rest l = position (λ v. same_name v.name (view.id l.name)) (quantified l.all) ≡ option_map (λ i. i + l.place) (position (λ v. same_name v.name (view.id l.name)) (quantified l.rest))
