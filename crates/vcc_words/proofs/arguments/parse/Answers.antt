use Rattle.clap.specs.Simple.{app_of}
use Rattle.vcc_words.specs.Words.{texts}
use Rattle.vcc_words.proofs.Matches.{arguments_are, refusal_reads}
use Rattle.vcc_words.proofs.arguments.parse.Goals as goal

pub returns-in-Ok : goal.returns-in-Ok
returns-in-Ok c = arguments_are (app_of c.in_ok-parser.parser) (texts c.args.words.now) c.in-Ok.matches c.arguments_of.result c.in_ok-parser.ensures c.requires c.in-Ok.ensures.matches c.in-Ok.ensures.kinds c.arguments_of.ensures

pub returns-in-Err : goal.returns-in-Err
returns-in-Err c = refusal_reads (app_of c.in_ok-parser.parser) (texts c.args.words.now) c.in-Err.error c.kind.result c.refusal.result c.in_ok-parser.ensures c.in-Err.ensures.kinds c.kind.ensures c.refusal.ensures
