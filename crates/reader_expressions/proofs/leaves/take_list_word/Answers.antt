use Rattle.reader_expressions.specs.Reading.{lexemes}
use Rattle.reader_expressions.proofs.Words.{same_word}
use Rattle.reader_expressions.proofs.leaves.take_list_word.Goals as goal

pub returns-clause-gives : goal.returns-clause-gives
returns-clause-gives c = same_word c.take_spec.result (lexemes c.args.tokens.now) c.word_of_list.ensures c.take_spec.ensures.gives
