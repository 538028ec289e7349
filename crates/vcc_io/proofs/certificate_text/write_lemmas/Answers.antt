use Rattle.std.proofs.Common.{sym, subst}
use Rattle.std.proofs.lemmas.List.Elements.{All-get_or}
use Rattle.vcc_io.specs.CertificateTexts.{HasFewLiterals}
use Rattle.vcc_io.proofs.certificate_text.write_lemmas.Goals as goal

pub encode_lemma-requires : goal.encode_lemma-requires
encode_lemma-requires c = subst HasFewLiterals (sym c.lemma-item.is) (All-get_or HasFewLiterals c.args.lemmas.now c.loop-lemma.lemma-index c.lemma-item.result c.loop-lemma-test.true c.requires)
