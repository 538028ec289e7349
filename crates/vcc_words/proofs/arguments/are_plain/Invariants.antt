use Rattle.vcc_words.proofs.Plain.{Rests}
use Rattle.vcc_words.proofs.arguments.are_plain.Given as goal

abbrev pub invariant-loop-word : goal.invariant-loop-word
invariant-loop-word l = Rests l.words l.word-index
