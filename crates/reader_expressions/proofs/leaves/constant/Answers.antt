use Rattle.std.proofs.lemmas.Result.{err_from_is_err_and}
use Rattle.c_syntax.specs.Views.{exp}
use Rattle.reader_expressions.specs.Reading.{lexemes}
use Rattle.reader_expressions.proofs.Outcomes.{first_err}
use Rattle.reader_expressions.proofs.Words.{place, word_read, word_ok}
use Rattle.reader_expressions.proofs.leaves.constant.Goals as goal

pub returns-in_err-word-clause-gives : goal.returns-in_err-word-clause-gives
returns-in_err-word-clause-gives c =
    let p = err_from_is_err_and c.from_residual.result c.from_residual.ensures.1 in
    rw (p.1, p.2) (first_err place exp _ _ _ _ (word_read c.args.value (lexemes c.args.tokens.now) c.word_of_constant.ensures) c.in_err-word.ensures.gives)

pub returns-clause-gives : goal.returns-clause-gives
returns-clause-gives c = word_ok c.args.value (lexemes c.args.tokens.now) _ _ _ c.word_of_constant.ensures c.in_ok-word.ensures.gives c.in_ok-word.ensures.flat
