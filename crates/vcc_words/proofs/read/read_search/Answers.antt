use Rattle.vcc_words.specs.Words.{texts}
use Rattle.vcc_words.proofs.Parts.{searches}
use Rattle.vcc_words.proofs.read.read_search.Goals as goal

pub returns : goal.returns
returns c = searches (texts c.args.words.now) c.in_ok-arguments.arguments c.search_of.result c.in_ok-arguments.ensures c.search_of.ensures
