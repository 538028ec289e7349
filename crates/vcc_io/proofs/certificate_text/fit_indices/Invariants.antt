use Rattle.std.proofs.Common.{take, All}
use Rattle.vcc_io.specs.CertificateTexts.{HaveIndices}
use Rattle.vcc_io.proofs.certificate_text.fit_indices.Given as goal

abbrev pub invariant-loop-lemma : goal.invariant-loop-lemma
invariant-loop-lemma l = record { fit : All HaveIndices (take l.lemma-index l.lemmas) }
