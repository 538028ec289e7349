use Rattle.std.proofs.Common.{◌∙◌, sym, ap, Ok, Some}
use Rattle.c_syntax.specs.Expressions as e
use Rattle.c_syntax.specs.Views.{id}
use Rattle.c_syntax.specs.Grammar as g
use Rattle.reader_expressions.specs.Reading.{lexemes}
use Rattle.reader_assignments.specs.Views as views
use Rattle.reader_assignments.proofs.Pends.{cast_ok}
use Rattle.reader_assignments.proofs.rights.cast_done.Goals as goal

pub returns-in_ok-found-in-Cast-clause-gives : goal.returns-in_ok-found-in-Cast-clause-gives
returns-in_ok-found-in-Cast-clause-gives c =
    cast_ok c.args.room _ (id c.in-Cast.name) _ _ _ _ _ _ (c.in_ok-begun.ensures.gives ∙ ap (λ v. Ok (views.begun v, c.in_ok-begun.begun.height, lexemes c.in_ok-begun.begun.rest.now)) c.in-Cast.is) c.in_ok-found-in-Cast.ensures.gives
    ∙ ap (λ k. Ok (g.Done (e.Malloc (Some (id c.in-Cast.name)) c.in_ok-found-in-Cast.found.value.0 (id c.in_ok-found-in-Cast.found.value.1)), k, lexemes c.in_ok-found-in-Cast.found.rest.now)) (sym c.max.ensures)
