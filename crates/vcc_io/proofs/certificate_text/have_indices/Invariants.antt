use Rattle.std.proofs.Common.{take, All}
use Rattle.vcc_io.specs.CertificateTexts.{HasIndex}
use Rattle.vcc_io.proofs.certificate_text.have_indices.Given as goal

abbrev pub invariant-loop-term : goal.invariant-loop-term
invariant-loop-term l = record { fit : All HasIndex (take l.term-index l.terms) }
