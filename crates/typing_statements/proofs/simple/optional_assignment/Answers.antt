use Rattle.std.proofs.Common.{sym, ap, ◌∙◌, Option}
use Rattle.std.specs.Option.{option_map}
use Rattle.c_syntax.specs.declared.expressions.Assignment.{Assignment}
use Rattle.c_syntax.specs.Views as view
use Rattle.typing_spec.specs.Pieces.{assignment, if_some}
use Rattle.typing_expressions.specs.Violations.{violations}
use Rattle.typing_expressions.specs.Views.{context}
use Rattle.typing_expressions.proofs.FoundLaws.{found_none}
use Rattle.typing_statements.proofs.simple.optional_assignment.Goals as goal

pub returns-in-None : goal.returns-in-None
returns-in-None c = c.nothing.ensures ∙ (sym found_none ∙ ap (λ (o : Option Assignment). violations (if_some (assignment (context c.args.context)) (option_map view.assignment o))) (sym c.in-None.is))
