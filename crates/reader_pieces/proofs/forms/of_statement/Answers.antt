use Rattle.std.proofs.Common.{ap}
use Rattle.std.proofs.lemmas.Result.{err_from_is_err_and}
use Rattle.reader_expressions.specs.Reading.{lexemes}
use Rattle.reader_expressions.proofs.Outcomes.{high_gives}
use Rattle.reader_pieces.specs.Annotations.{view}
use Rattle.reader_pieces.specs.Shapes.{at_span}
use Rattle.reader_pieces.proofs.Choices.{statement_high}
use Rattle.reader_pieces.proofs.forms.of_statement.Goals as goal

pub returns-in_err-fits-clause-gives : goal.returns-in_err-fits-clause-gives
returns-in_err-fits-clause-gives c =
    let p = err_from_is_err_and c.from_residual.result c.from_residual.ensures.1 in
    let e = c.in_err-fits.ensures.err in
    rw (p.1, p.2) (high_gives view _ _ _ e.1 (ap (at_span c.args.span) (statement_high c.args.room (lexemes c.args.tokens.now) _ c.in-Some.ensures e.0)))
