use Rattle.std.proofs.Common.{List, All, subst, arith}
use Rattle.std.proofs.lemmas.List.{take_all}
use Rattle.std.proofs.lemmas.List.Elements.{All-more}
use Rattle.terms.specs.declared.term.Term.{Term}
use Rattle.cert_format.specs.Derivations.{Derivation}
use Rattle.vcc_io.specs.CertificateTexts.{HasIndex, HaveIndices}
use Rattle.vcc_io.proofs.CertificateTexts.{all_indices}
use Rattle.vcc_io.proofs.certificate_text.fit_indices.Goals as goal

pub loop-lemma-preserved : goal.loop-lemma-preserved
loop-lemma-preserved c = record { fit = All-more HaveIndices c.args.lemmas.now c.loop-lemma.lemma-index c.lemma-item.result c.loop-lemma-test.true c.loop-lemma.invariant.fit (subst HaveIndices c.lemma-item.is (subst (λ (ts : List Term). All HasIndex ts) c.terms.ensures c.have_indices.ensures)) }

pub returns : goal.returns
returns c = all_indices c.args.lemmas.now (subst (λ (ds : List Derivation). All HaveIndices ds) (take_all c.loop-lemma.lemma-index c.args.lemmas.now (omega (arith, c.loop-lemma-test.false))) c.loop-lemma.invariant.fit)
