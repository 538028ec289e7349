use Rattle.std.proofs.Common.{sym, ap, ◌∙◌, Option}
use Rattle.std.specs.Option.{option_map}
use Rattle.c_syntax.specs.declared.expressions.Compared.{Compared}
use Rattle.c_syntax.specs.Views as view
use Rattle.typing_spec.specs.Pieces.{compared}
use Rattle.typing_expressions.specs.Violations.{violations}
use Rattle.typing_expressions.specs.Views.{context}
use Rattle.typing_expressions.proofs.FoundLaws.{found_none}
use Rattle.typing_statements.proofs.rights.comparison.Goals as goal

pub returns-in-None-clause-inner : goal.returns-in-None-clause-inner
returns-in-None-clause-inner c = c.nothing.ensures ∙ (sym found_none ∙ ap (λ (o : Option Compared). violations (compared (context c.args.context) (option_map view.comparison o))) (sym c.in-None.is))
