use Rattle.std.proofs.Common.{List, All, subst, arith}
use Rattle.std.proofs.lemmas.List.{take_all}
use Rattle.std.proofs.lemmas.List.Elements.{All-more}
use Rattle.terms.specs.declared.term.Term.{Term}
use Rattle.vcc_io.specs.CertificateTexts.{HasIndex}
use Rattle.vcc_io.proofs.certificate_text.have_indices.Goals as goal

pub loop-term-preserved : goal.loop-term-preserved
loop-term-preserved c = record { fit = All-more HasIndex c.args.terms.now c.loop-term.term-index c.term-item.result c.loop-term-test.true c.loop-term.invariant.fit (subst HasIndex c.term-item.is c.fits_index.ensures) }

pub returns : goal.returns
returns c = subst (λ (xs : List Term). All HasIndex xs) (take_all c.loop-term.term-index c.args.terms.now (omega (arith, c.loop-term-test.false))) c.loop-term.invariant.fit
