use Rattle.std.proofs.lemmas.Result.{err_from_is_err_and}
use Rattle.reader_expressions.specs.Suffixes.{suffix, with_token}
use Rattle.reader_expressions.specs.Reading.{lexemes}
use Rattle.reader_expressions.proofs.Climbs.{more_ok, more_err}
use Rattle.reader_expressions.proofs.arrows.climb_suffix.Goals as goal

pub returns-in_err-found-clause-gives : goal.returns-in_err-found-clause-gives
returns-in_err-found-clause-gives c =
    let p = err_from_is_err_and c.from_residual.result c.from_residual.ensures.1 in
    rw (p.1, p.2) (more_err suffix with_token c.args.room (lexemes c.args.tokens.now) _ c.in_err-found.ensures.gives)

pub returns-clause-gives : goal.returns-clause-gives
returns-clause-gives c = more_ok c.args.room (lexemes c.args.tokens.now) _ _ _ c.in_ok-found.ensures.gives
