use Rattle.std.proofs.lemmas.Result.{err_from_is_err_and}
use Rattle.c_syntax.specs.Classes.{spec}
use Rattle.reader_expressions.specs.Suffixes.{suffix}
use Rattle.reader_expressions.specs.Reading.{lexemes}
use Rattle.reader_expressions.proofs.Outcomes.{first_err}
use Rattle.reader_expressions.proofs.Words.{place, status_read, status_ok}
use Rattle.reader_expressions.proofs.arrows.status.Goals as goal

pub returns-in_err-found-clause-gives : goal.returns-in_err-found-clause-gives
returns-in_err-found-clause-gives c =
    let p = err_from_is_err_and c.from_residual.result c.from_residual.ensures.1 in
    rw (p.1, p.2) (first_err place suffix _ _ _ _ (status_read (spec c.args.word) c.args.status (lexemes c.args.tokens.now)) c.in_err-found.ensures.gives)

pub returns-clause-gives : goal.returns-clause-gives
returns-clause-gives c = status_ok (spec c.args.word) c.args.status (lexemes c.args.tokens.now) _ _ _ c.in_ok-found.ensures.gives c.in_ok-found.ensures.flat
