use Rattle.std.proofs.lemmas.Result.{err_from_is_err_and}
use Rattle.c_syntax.specs.Classes.{spec}
use Rattle.c_syntax.specs.declared.token.SpecWord.TheVariants as w
use Rattle.reader_expressions.specs.Reading.{lexemes}
use Rattle.reader_expressions.proofs.Outcomes.{first_err}
use Rattle.reader_expressions.proofs.Words.{place, token_high, high_ok}
use Rattle.reader_expressions.proofs.approvals.owner.Goals as goal

pub returns-in_err-word-clause-gives : goal.returns-in_err-word-clause-gives
returns-in_err-word-clause-gives c =
    let p = err_from_is_err_and c.from_residual.result c.from_residual.ensures.1 in
    rw (p.1, p.2) (first_err place place _ _ _ _ (token_high (spec w.Owner) 2 (lexemes c.args.tokens.now)) c.in_err-word.ensures.gives)

pub returns-clause-gives : goal.returns-clause-gives
returns-clause-gives c = high_ok (spec w.Owner) 2 (lexemes c.args.tokens.now) _ _ _ c.in_ok-word.ensures.gives
