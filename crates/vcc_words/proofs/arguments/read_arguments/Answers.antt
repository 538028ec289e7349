use Rattle.std.proofs.lemmas.Bool.{both_ways}
use Rattle.vcc_words.specs.Words.{texts}
use Rattle.vcc_words.proofs.Pieces.{are_plain}
use Rattle.vcc_words.proofs.arguments.read_arguments.Goals as goal

pub returns-then-not-are_plain : goal.returns-then-not-are_plain
returns-then-not-are_plain c = λ source cert leaves rounds a. both_ways _ c.if-not-are_plain.true (c.are_plain.ensures.1 (are_plain (texts c.args.words.now) a.pieces a.are))

pub parse-requires : goal.parse-requires
parse-requires c = c.are_plain.ensures.0 c.if-not-are_plain.false
