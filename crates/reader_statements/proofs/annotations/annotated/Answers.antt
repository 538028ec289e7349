use Rattle.std.proofs.Common.{ap}
use Rattle.std.proofs.lemmas.Result.{err_from_is_err_and}
use Rattle.reader_expressions.specs.Reading.{lexemes}
use Rattle.reader_statements.specs.Rows.{at_span, higher}
use Rattle.reader_statements.proofs.Forms.{annotated_fits, annotated_high, annotated_none}
use Rattle.reader_statements.proofs.Openings.{same_begins, high_begins}
use Rattle.reader_statements.proofs.annotations.annotated.Goals as goal

pub returns-in_err-fits-clause-begins : goal.returns-in_err-fits-clause-begins
returns-in_err-fits-clause-begins c = let p = err_from_is_err_and c.from_residual.result c.from_residual.ensures.1 in let e = c.in_err-fits.ensures.err in rw (p.1, p.2) (high_begins c.args.room _ _ _ e.1 (ap (λ o. higher (at_span c.args.span o)) (annotated_high c.args.room (lexemes c.args.tokens.now) _ c.in-Some.ensures e.0)))

pub returns-clause-begins : goal.returns-clause-begins
returns-clause-begins c = same_begins c.args.room c.of_form.result _ _ (ap (λ o. higher (at_span c.args.span o)) (annotated_fits c.args.room (lexemes c.args.tokens.now) _ c.in-Some.ensures c.in_ok-fits.ensures.ok)) c.of_form.ensures.begins

pub returns-in_default-clause-begins : goal.returns-in_default-clause-begins
returns-in_default-clause-begins c = ap (λ o. higher (at_span c.args.span o)) (annotated_none c.args.room (lexemes c.args.tokens.now) c.in_default.ensures)
