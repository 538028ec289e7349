use Rattle.std.proofs.Common.{◌≡◌, ◌++◌, drop, flat_map}
use Rattle.cert_format.specs.Text.{lemma_text}
use Rattle.vcc_io.proofs.certificate_text.write_lemmas.Given as goal

abbrev pub invariant-loop-lemma : goal.invariant-loop-lemma
invariant-loop-lemma l = l.text.items ++ flat_map lemma_text (drop l.lemma-index l.lemmas) ≡ l.fn.text.items ++ flat_map lemma_text l.lemmas
