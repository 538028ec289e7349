use Rattle.std.proofs.Common.{sym, ap, ◌∙◌, Option}
use Rattle.std.specs.Option.{option_map}
use Rattle.c_syntax.specs.declared.expressions.ValueType.{ValueType}
use Rattle.c_syntax.specs.Views as view
use Rattle.typing_spec.specs.Pieces.{if_some, struct_name}
use Rattle.typing_symbols.specs.Whole.{program}
use Rattle.typing_expressions.specs.Violations.{violations, breaking}
use Rattle.typing_expressions.proofs.FoundLaws.{found_none}
use Rattle.typing_expressions.proofs.Judgements.{own_type}
use Rattle.typing_statements.proofs.contracts.value_type.Goals as goal

pub returns-in-None : goal.returns-in-None
returns-in-None c = c.nothing.ensures ∙ (sym found_none ∙ ap (λ (o : Option ValueType). violations (if_some (struct_name (program c.args.declarations.now)) (option_map view.ty o))) (sym c.in-None.is))

pub returns-in-Some : goal.returns-in-Some
returns-in-Some c =
    c.breaking.ensures ∙ (ap breaking c.type_breaks.ensures ∙ (sym (own_type (program c.args.declarations.now) (view.ty c.in-Some.ty))
    ∙ ap (λ (o : Option ValueType). violations (if_some (struct_name (program c.args.declarations.now)) (option_map view.ty o))) (sym c.in-Some.is)))
