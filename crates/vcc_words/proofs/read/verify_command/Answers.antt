use Rattle.vcc_words.specs.Words.{texts}
use Rattle.vcc_words.proofs.Parts.{as_verify}
use Rattle.vcc_words.proofs.read.verify_command.Goals as goal

pub returns : goal.returns
returns c = as_verify (texts c.args.words.now) (texts c.in-Some.rest.now) c.read_search.result c.in-Some.ensures c.read_search.ensures
