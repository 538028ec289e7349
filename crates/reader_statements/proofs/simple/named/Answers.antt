use Rattle.std.proofs.lemmas.Result.{err_from_is_err_and}
use Rattle.c_syntax.specs.Views.{exp}
use Rattle.reader_expressions.specs.Reading.{lexemes}
use Rattle.reader_expressions.proofs.Outcomes.{first_err, then_gives, same_gives}
use Rattle.reader_statements.specs.Views.{in_box}
use Rattle.reader_statements.proofs.Names.{named_read, name_tail, other_tail}
use Rattle.reader_statements.proofs.simple.named.Goals as goal

pub returns-in_err-place-clause-gives : goal.returns-in_err-place-clause-gives
returns-in_err-place-clause-gives c =
    let p = err_from_is_err_and c.from_residual.result c.from_residual.ensures.1 in
    rw (p.1, p.2) (first_err exp in_box _ _ _ _ (named_read c.args.room (lexemes c.args.tokens.now)) c.in_err-place.ensures.gives)

pub returns-in-Ok-clause-gives : goal.returns-in-Ok-clause-gives
returns-in-Ok-clause-gives c = then_gives in_box c.behind_name.result _ _ _ _ _ _ (named_read c.args.room (lexemes c.args.tokens.now)) c.in_ok-place.ensures.gives (same_gives in_box c.behind_name.result _ _ (name_tail c.args.room _ _ _ _ c.in-Ok.ensures.ok) c.behind_name.ensures.gives)

pub returns-in-Err-clause-gives : goal.returns-in-Err-clause-gives
returns-in-Err-clause-gives c = let w = c.in-Err.ensures.err in then_gives in_box c.assign.result _ _ _ _ _ _ (named_read c.args.room (lexemes c.args.tokens.now)) c.in_ok-place.ensures.gives (same_gives in_box c.assign.result _ _ (other_tail c.args.room _ _ _ _ w.0 w.1) c.assign.ensures.gives)
